-- A number of one to three digits where it is read: how long it is, and when octets are one. From document 01, "A number has one to three digits and no leading zero".
use Prim.Native.Nat.{ℕ, ◌+◌, ◌*◌, ◌/◌, ◌%◌, ◌≤◌, ◌<◌}
use mathlib.Core.Path.{◌≡◌, refl, sym, ◌∙◌, ap}
use mathlib.Core.Bool.{Bool, true, false, false≢true}
use mathlib.Core.List.{List, [], ◌∷◌}
use native.Mathlib.Omega.{arith}
use lib.Dec.{ltb}
use lib.ListN.{length, get_or, drop, length-drop}
use lib.Seq.{drop-length}
use borrow.Author.Tests.{ltb-true, ltb-false}
use Rattle.sexp.specs.Decimal.{decimal_onto, decimal, is_digit}
use Rattle.sexp.specs.Number.{Number}
use Rattle.sexp.specs.Words.{is_number, worth}
use Rattle.sexp.proofs.DecimalLaws.{digit-is, onto-small, onto-step, onto-length, onto-first}
use Rattle.sexp.proofs.TextLaws.{number_read}
use Rattle.sexp.proofs.WordLaws.{decimal-is, worth-decimal, number-back}

-- how many digits a number has
size_small : (n : ℕ) → n < 10 → length (decimal n) ≡ 1
unfolding decimal
size_small n h = ap length (onto-small n [] h)

size_step : (n : ℕ) → 10 ≤ n → length (decimal n) ≡ length (decimal (n / 10)) + 1
unfolding decimal
size_step n h =
    ap (λ (x : ℕ). length (decimal_onto x [])) {x = n} {y = n / 10 * 10 + n % 10} (omega arith)
    ∙ ap length (onto-step (n / 10) (n % 10) [] (omega arith) (omega arith))
    ∙ onto-length (n / 10) ((48 + n % 10) ∷ [])

pub size-first : (n : ℕ) → (0 < length (decimal n)) × (is_digit (get_or (decimal n) 0 0) ≡ true)
unfolding decimal
size-first n =
    let (c, r, e, l) = onto-first n [] in
    (omega (arith, ap length e), ap (λ (w : List ℕ). is_digit (get_or w 0 0)) e ∙ digit-is c l.0 l.1)

-- at most 999: at most three digits
pub size-999 : (n : ℕ) → n ≤ 999 → length (decimal n) ≤ 3
size-999 n h = go (ltb n 10) refl (ltb n 100) refl
  where
    go : (a : Bool) → ltb n 10 ≡ a → (b : Bool) → ltb n 100 ≡ b → length (decimal n) ≤ 3
    go true e b f = omega (arith, size_small n (ltb-true n 10 e))
    go false e true f =
        let l = ltb-true n 100 f in
        omega (arith, size_step n (ltb-false n 10 e), size_small (n / 10) (omega arith))
    go false e false f =
        let l = ltb-false n 100 f in
        omega (arith, size_step n (omega arith), size_step (n / 10) (omega arith), size_small (n / 10 / 10) (omega arith))

-- and back
pub size-3 : (n : ℕ) → length (decimal n) ≤ 3 → n ≤ 999
size-3 n h = go (ltb n 1000) refl
  where
    go : (b : Bool) → ltb n 1000 ≡ b → n ≤ 999
    go true e = let l = ltb-true n 1000 e in omega arith
    go false e =
        let l = ltb-false n 1000 e in
        absurd (omega (arith, h, size_step n (omega arith), size_step (n / 10) (omega arith), size_step (n / 10 / 10) (omega arith), (size-first (n / 10 / 10 / 10)).0))

-- what a number is not
module _ (w : List ℕ) where
  pub numeral-none : length w ≡ 0 → is_number w ≡ true → ⊥
  numeral-none h e = let q = ap length (number-back w e).0 in omega (arith, h, q, (size-first (worth w)).0)

  pub numeral-long : 3 < length w → is_number w ≡ true → ⊥
  numeral-long h e = let (q, l) = number-back w e in omega (arith, h, ap length q, size-999 (worth w) l)

  pub numeral-first : is_digit (get_or w 0 0) ≡ false → is_number w ≡ true → ⊥
  numeral-first h e = false≢true (sym h ∙ ap (λ (v : List ℕ). is_digit (get_or v 0 0)) (number-back w e).0 ∙ (size-first (worth w)).1)

  -- digits are read up to i
  module _ (v i : ℕ) (r : Number w 0 v i) where
    pub numeral-more : (i ≡ length w → ⊥) → is_number w ≡ true → ⊥
    unfolding decimal
    numeral-more h e =
        let q = (number_read w 0 v i r (worth w) [] tt (number-back w e).0).1 in
        h (omega (arith, sym (length-drop i w) ∙ ap length q, r.digits.inside))

    pub numeral-read : i ≡ length w → length w ≤ 3 → (is_number w ≡ true) × (v ≡ worth w)
    unfolding decimal
    numeral-read h l =
        let n = r.digits.worth in
        let q : w ≡ decimal n = r.digits.reads ∙ ap (decimal_onto n) (ap (λ (k : ℕ). drop k w) h ∙ drop-length w) in
        let m = size-3 n (omega (arith, l, ap length q)) in
        (ap is_number q ∙ decimal-is n m, omega (arith, r.digits.clipped, m, ap worth q ∙ worth-decimal n))
