-- From octets to the offset that they stand at: words, names, numbers, and the same string at two offsets. And one answer for every input.
use Prim.Native.Nat.{ℕ, ◌+◌, ◌-◌, ◌≤◌}
use mathlib.Core.Path.{◌≡◌, refl, sym, ◌∙◌, ap, subst}
use mathlib.Core.Bool.{Bool, true, false, false≢true}
use mathlib.Core.List.{List}
use native.Mathlib.Omega.{arith}
use lib.ListN.{take, drop}
use Rattle.basics.specs.Tells.{Tells, tells_as}
use Rattle.std.specs.Prelude.{Option, Some, None}
use Rattle.sexp.specs.Decimal.{decimal}
use Rattle.sexp.specs.Sexp.{str, Stands}
use Rattle.sexp.specs.Strings.{Plain}
use Rattle.sexp.specs.Words.{is_name, is_number, worth}
use Rattle.sexp.specs.WordsAt.{Named, Shared, Numeral, NumberAt, NumeralOf}
use Rattle.sexp.proofs.StandLaws.{string-once}
use Rattle.sexp.proofs.WordLaws.{decimal-is, worth-decimal, number-back}

-- a test's answer as a statement
pub test-tells : (b r : Bool) → r ≡ b → Tells r (b ≡ true)
test-tells true r e = subst (λ (x : Bool). Tells x (true ≡ true)) (sym e) refl
test-tells false r e = subst (λ (x : Bool). Tells x (false ≡ true)) (sym e) false≢true

module _ (s : List ℕ) (at b n : ℕ) (p : Plain s at b n) where
  -- the octets of a plain string, as the code has them
  abbrev part : List ℕ
  part = take (b + n - b) (drop b s)

  part-is : p.octets ≡ part
  part-is = p.lies ∙ ap (λ (k : ℕ). take k (drop b s)) {x = n} {y = b + n - b} (omega arith)

  -- what is true of the octets of any string that stands there is true of these
  here : {w : List ℕ} → Stands s at (str w) → w ≡ part
  here h = string-once h p.stands ∙ part-is

  stands : Stands s at (str part)
  stands = subst (λ (w : List ℕ). Stands s at (str w)) part-is p.stands

  pub word-told : (v : List ℕ) (r : Bool) → Tells r (part ≡ v) → Tells r (Stands s at (str v))
  word-told v r = tells_as r (λ e. subst (λ (w : List ℕ). Stands s at (str w)) e stands) (λ h. sym (here h))

  pub name-told : (r : Bool) → r ≡ is_name part → Tells r (Named s at)
  name-told r e =
      tells_as r
      (λ f. record { octets = part; stands = stands; name = f })
      (λ h. sym (ap is_name (here h.stands)) ∙ h.name)
      (test-tells (is_name part) r e)

  pub number-told : (r : Option ℕ) → NumeralOf part r → NumberAt s at r
  number-told (Some v) (f, e) = record { octets = part; stands = stands; number = f; says = e }
  number-told None f = λ w h e. f (sym (ap is_number (here h)) ∙ e)

  pub shared-told : (t : List ℕ) (j : ℕ) (r : Bool) → Tells r (Stands t j (str part)) → Tells r (Shared t j s at)
  shared-told t j r =
      tells_as r
      (λ h. record { octets = part; here = h; there = stands })
      (λ h. subst (λ (w : List ℕ). Stands t j (str w)) (here h.there) h.here)

-- where the answer is known
pub number_is : {s : List ℕ} {at n : ℕ} {r : Option ℕ} → r ≡ Some n → NumberAt s at r → Numeral s at n
number_is {s} {at} e h = subst (λ (x : Option ℕ). NumberAt s at x) e h

pub number-nothing : {s : List ℕ} {at : ℕ} {r : Option ℕ} → r ≡ None → NumberAt s at r → (w : List ℕ) → Stands s at (str w) → is_number w ≡ true → ⊥
number-nothing {s} {at} e h = subst (λ (x : Option ℕ). NumberAt s at x) e h

-- a number at an offset is the digits of what it says, which is at most 999; and such digits are a number
pub numeral-stands : {s : List ℕ} {at n : ℕ} → Numeral s at n → (n ≤ 999) × Stands s at (str (decimal n))
numeral-stands {s} {at} {n} h =
    let (e, l) = number-back h.octets h.number in (
      omega (arith, l, h.says),
      subst (λ (w : List ℕ). Stands s at (str w)) (e ∙ ap decimal (sym h.says)) h.stands,
    )

pub stands-numeral : {s : List ℕ} {at n : ℕ} → n ≤ 999 → Stands s at (str (decimal n)) → Numeral s at n
stands-numeral {n} l h = record { octets = decimal n; stands = h; number = decimal-is n l; says = sym (worth-decimal n) }

-- one answer for every input
pub number-answer : (s : List ℕ) (at : ℕ) (r r' : Option ℕ) → NumberAt s at r → NumberAt s at r' → r ≡ r'
number-answer s at (Some n) (Some m) h g = ap Some (h.says ∙ ap worth (string-once h.stands g.stands) ∙ sym g.says)
number-answer s at (Some n) None h g = absurd (g h.octets h.stands h.number)
number-answer s at None (Some m) h g = absurd (h g.octets g.stands g.number)
number-answer s at None None h g = refl

pub numeral-answer : (w : List ℕ) (r r' : Option ℕ) → NumeralOf w r → NumeralOf w r' → r ≡ r'
numeral-answer w (Some n) (Some m) h g = ap Some (h.1 ∙ sym g.1)
numeral-answer w (Some n) None h g = absurd (g h.0)
numeral-answer w None (Some m) h g = absurd (h g.0)
numeral-answer w None None h g = refl
