-- What the code says of an expression of a kind, or of the members of a list, that stands in bytes: where it ends, or the place of refusal 4 (Wrong says which).
use Rattle.std.specs.Prelude.{ℕ, ◌+◌, ◌<◌, ◌≡◌, List, length, Result, Ok, Err}
use Rattle.std.proofs.Math.Option.{Option, none, some}
use Rattle.basics.specs.Choice.{maybe}
use Rattle.sexp.specs.Sexp.{Sexp, Sexps, spell, spells, nesting, nestings, StandsAll}
use Rattle.packet.specs.declared.Kind.{Kind}
use Rattle.packet.specs.declared.Due.{Due}
use Rattle.reader.specs.declared.shape.Start.{Start}
use Rattle.reader.specs.declared.shape.Start.TheVariants as B
use Rattle.reader.specs.declared.shape.Head.{Head}
use Rattle.reader.specs.declared.shape.Head.TheVariants as H
use Rattle.packet.specs.Wrong.{Begins, wrong, wrong_in}

-- of an expression of a kind
unfoldable pub shape_of : Kind → ℕ → Sexp → Result ℕ ℕ
shape_of k at e = maybe (wrong k at e) (Ok (at + length (spell e))) Err

-- of members as they are due, with the closing parenthesis
unfoldable pub shape_in : Due → ℕ → Sexps → Result ℕ ℕ
shape_in due at xs = maybe (wrong_in due at xs) (Ok (at + length (spells xs) + 1)) Err

-- an expression of a kind is a list whose further members stand from an offset on, and they decide
pub record Opened (s : List ℕ) (k : Kind) (at : ℕ) (e : Sexp) (from : ℕ) (due : Due) : Type 0 where
  pub members : Sexps
  pub stand : StandsAll s from members
  pub shallow : nestings members < nesting e
  pub same : shape_in due from members ≡ shape_of k at e

-- what the head of an expression of a kind says
abbrev pub HeadAt : List ℕ → Kind → ℕ → Sexp → Result Head ℕ → Type 0
HeadAt s k at e (Ok (H.Text to)) = Ok to ≡ shape_of k at e
HeadAt s k at e (Ok (H.List from due)) = Opened s k at e from due
HeadAt s k at e (Err o) = Err o ≡ shape_of k at e

-- the head of a list by what is due after its word, which stands at an offset and ends at another
abbrev pub head_by : ℕ → ℕ → Option Due → Result Head ℕ
head_by at to none = Err at
head_by at to (some due) = Ok (H.List to due)

-- how a list of a kind begins, as the code has it
abbrev pub start_of : Begins → Start
start_of Begins.never = B.Never
start_of Begins.plainly = B.Plainly
start_of Begins.with_word = B.WithWord
