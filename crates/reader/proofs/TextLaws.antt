-- Which octets are of a kind by themselves, and the head of a list by its word, as the code's tests and matches find them.
use Prim.Native.Nat.{ℕ}
use mathlib.Core.Path.{◌≡◌, refl, sym, ◌∙◌, ap, ap₂}
use mathlib.Core.Bool.{Bool, true, false, ◌||◌}
use mathlib.Core.List.{List}
use mathlib.Core.Option.{Option, none, some}
use Rattle.std.specs.Prelude as code
use Rattle.std.specs.Prelude.{Result, Ok, Err, is_some}
use Rattle.basics.specs.Tells.{Tells, told-yes, told-no}
use Rattle.basics.specs.Text.{octets}
use Rattle.sexp.specs.Words.{is_number}
use Rattle.sexp.specs.WordsAt.{NumeralOf}
use Rattle.packet.specs.declared.Due.{Due}
use Rattle.reader.specs.declared.shape.Head.{Head}
use Rattle.reader.specs.declared.shape.Head.TheVariants as H
use Rattle.rows.specs.Rows.{row_of}
use Rattle.packet.specs.Wrong.{is_step}
use Rattle.reader.specs.Shape.{head_by}
use Rattle.reader.proofs.KeyLaws.{differ}

-- a number is one where it is told what it says
pub number-told : (w : List ℕ) (r : code.Option ℕ) → NumeralOf w r → is_some r ≡ is_number w
number-told w (code.Some n) h = sym h.0
number-told w code.None h = go (is_number w) h
  where
    go : (b : Bool) → (b ≡ true → ⊥) → false ≡ b
    go true n = absurd (n refl)
    go false n = refl

module _ (w : List ℕ) (r : Bool) where
  pub step-l : r ≡ true → Tells r (w ≡ octets "l") → true ≡ is_step w
  unfolding is_step
  step-l e h = sym (ap is_step (told-yes e h))

  pub step-r : r ≡ true → Tells r (w ≡ octets "r") → true ≡ is_step w
  unfolding is_step
  step-r e h = sym (ap is_step (told-yes e h))

pub step-number : (w : List ℕ) (a b : Bool) → a ≡ false → Tells a (w ≡ octets "l") → b ≡ false → Tells b (w ≡ octets "r") → is_number w ≡ is_step w
unfolding is_step
step-number w a b e h f g =
    sym (ap₂ (λ (x y : Bool). x || y || is_number w) (differ w (octets "l") (told-no e h)) (differ w (octets "r") (told-no f g)))

-- the head of a list by the code's row
abbrev head_row : ℕ → ℕ → code.Option Due → Result Head ℕ
head_row at to code.None = Err at
head_row at to (code.Some due) = Ok (H.List to due)

row_is : (at to : ℕ) (o : Option Due) → head_row at to (row_of o) ≡ head_by at to o
row_is at to none = refl
row_is at to (some due) = refl

pub row-head : (at to : ℕ) (o : Option Due) (r r' : code.Option Due) → r ≡ r' → r ≡ row_of o → head_row at to r' ≡ head_by at to o
row-head at to o r r' e h = ap (head_row at to) (sym e ∙ h) ∙ row_is at to o
