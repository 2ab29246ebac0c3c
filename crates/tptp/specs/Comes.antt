-- What becomes of a text in TPTP, for every text and any two buffers (document 02, One): two files, or one refusal, in the order 1, 12, 13, 6, 3, 10; the answer, and both buffers afterwards.
-- Which texts the grammar allows is crate fof_productions' `sound`, what the lines are written as is crate fof_part's `made_of`; that this is what document 02 asks is shown in proofs/.
use Rattle.std.specs.Prelude.{ℕ, ◌≡◌, Bool, List, ◌++◌, ltb, length, drop}
use Rattle.std.proofs.Math.Option.{Option}
use Rattle.basics.specs.Choice.{choose, maybe}
use Rattle.packet.specs.File.{most_bytes}
use Rattle.fof_tokens.specs.Token.{Token}
use Rattle.fof_tokens.specs.Next.{tokens}
use Rattle.fof_productions.specs.Sound.{sound}
use Rattle.fof_truth.specs.Book.{Why, why_number}
use Rattle.fof_part.specs.Sign.{signs}
use Rattle.fof_part.specs.Lines.{lines_at}
use Rattle.fof_part.specs.Made.{Made, made_of}
use Rattle.tptp.specs.Converted.{Converted}
use Rattle.tptp.specs.Converted as converted

-- why nothing is written
pub data Refusal : Type 0 where
  too_long : Refusal  -- the text is over 16,384 bytes
  unsound : Refusal  -- the grammar does not allow the text
  lines : Why → Refusal  -- sound lines, and why there are no files of them

-- the paper's numbers
abbrev pub number : Refusal → ℕ
number Refusal.too_long = 1
number Refusal.unsound = 12
number (Refusal.lines w) = why_number w

-- what a text comes to: the bytes of the rules and of the goal, or a refusal
pub data Comes : Type 0 where
  files : List ℕ → List ℕ → Comes
  refused : Refusal → Comes

abbrev pub of_made : Made → Comes
of_made (Made.files rs g) = Comes.files rs g
of_made (Made.refused w) = Comes.refused (Refusal.lines w)

-- the lines that the tokens are: 13, 6, 3, 10; a sound text has tokens
abbrev pub of_tokens : Option (List Token) → ℕ → ℕ → Comes
of_tokens o a c = maybe o (Comes.refused Refusal.unsound) λ ts. of_made (made_of (lines_at (signs ts)) a c)

-- 12, asked of the whole text before the lines
abbrev pub of_text : Bool → Option (List Token) → ℕ → ℕ → Comes
of_text t o a c = choose t (of_tokens o a c) (Comes.refused Refusal.unsound)

-- 1 before all others; a and c are the lengths of the two buffers
unfoldable pub comes_to : List ℕ → ℕ → ℕ → Comes
comes_to text a c = choose (ltb most_bytes (length text)) (Comes.refused Refusal.too_long) (of_text (sound text) (tokens text) a c)

-- the answer: all refusals are of file 1, with place 0
abbrev pub answered : Comes → Converted
answered (Comes.files rs g) = converted.written (length rs) (length g)
answered (Comes.refused w) = converted.refused (number w) 1 0

-- the front filled, the rest kept
abbrev pub over : List ℕ → List ℕ → List ℕ
over w d = w ++ drop (length w) d

-- the buffers afterwards; on any refusal they are as they came
abbrev pub rules_after : Comes → List ℕ → List ℕ
rules_after (Comes.files rs g) d = over rs d
rules_after (Comes.refused w) d = d

abbrev pub goal_after : Comes → List ℕ → List ℕ
goal_after (Comes.files rs g) d = over g d
goal_after (Comes.refused w) d = d

-- what is promised for every text and any two buffers: the answer, and what the two buffers hold afterwards
pub record Converts (text rules rules' goal goal' : List ℕ) (r : Converted) : Type 0 where
  pub answer : r ≡ answered (comes_to text (length rules) (length goal))
  pub ruled : rules' ≡ rules_after (comes_to text (length rules) (length goal)) rules
  pub asked : goal' ≡ goal_after (comes_to text (length rules) (length goal)) goal
