-- What the parts of the conversion say: a first reading measures what the lines would be written as, and that comes to the number of a refusal, or to none.
use Rattle.std.specs.Prelude.{ℕ, ◌≤◌, ◌≡◌, true, false, List, ltb, length}
use Rattle.std.specs.Prelude.{Some, None}
use Rattle.std.specs.Prelude as std
use Rattle.std.proofs.Math.Option.{Option, none, some}
use Rattle.packet.specs.File.{most_bytes, most_levels}
use Rattle.pen.specs.Laid.{counted}
use Rattle.fof_tokens.specs.Token.{Token}
use Rattle.fof_tokens.specs.Next.{tokens}
use Rattle.fof_truth.specs.Formula.{Role}
use Rattle.fof_truth.specs.Book.{why_number}
use Rattle.fof_part.specs.Sign.{signs}
use Rattle.fof_part.specs.Mark.{Mark, inked, deepest}
use Rattle.fof_part.specs.Lines.{lines_at}
use Rattle.fof_part.specs.Files.{axioms_in, conjectures_in, joined, rules_marks}
use Rattle.fof_part.specs.Made.{Made, made_of}
use Rattle.fof_pass.specs.declared.ink.Pen.{Pen}
use Rattle.fof_lines.specs.declared.lines.Passed.{Passed}

-- none where there are files, else the number of the refusal
abbrev pub made_number : Made → std.Option ℕ
made_number (Made.files rs g) = None
made_number (Made.refused w) = Some (why_number w)

-- how many bytes marks are, counted no further than a machine word goes, and whether they hold a list at level 65
pub record Measured (ms : List Mark) (p : Pen) : Type 0 where
  pub bytes : p.at ≡ counted (length (inked ms))
  pub deep : p.deep ≡ ltb most_levels (deepest 0 ms)

-- the lines' items, measured
pub record Sized (is : List (Role × List Mark)) (p : Passed) : Type 0 where
  pub ok : p.ok ≡ true
  pub rules : Measured (rules_marks (axioms_in is)) p.rules
  pub goal : Measured (joined (conjectures_in is)) p.goal
  pub axioms : p.axioms ≡ length (axioms_in is)
  pub conjectures : p.conjectures ≡ length (conjectures_in is)

abbrev pub SizedAs : Option (List (Role × List Mark)) → Passed → Type 0
SizedAs none p = p.ok ≡ false
SizedAs (some is) p = Sized is p

-- a text that has tokens, measured
pub record Measures (text : List ℕ) (p : Passed) : Type 0 where
  pub does : length text ≤ most_bytes → (ts : List Token) → tokens text ≡ some ts → SizedAs (lines_at (signs ts)) p

-- the number that what is measured comes to, with buffers of these lengths
pub record Reasons (p : Passed) (a c : ℕ) (n : std.Option ℕ) : Type 0 where
  pub does : (o : Option (List (Role × List Mark))) → SizedAs o p → n ≡ made_number (made_of o a c)
