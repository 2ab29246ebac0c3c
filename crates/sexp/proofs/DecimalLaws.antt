-- Laws of decimal numbers, each proved once over all lengths by `by_digits`: what holds of one digit, and of one digit more, holds of every number.
-- From document 01, "The carrier and the words": a length has no leading zero, and any number of digits.
use Prim.Native.Nat.{ℕ, zero, suc, ◌+◌, ◌*◌, ◌-◌, ◌/◌, ◌%◌, ◌≤◌, ◌<◌}
use mathlib.Core.Path.{◌≡◌, refl, sym, ◌∙◌, ap, subst}
use mathlib.Core.Bool.{Bool, true, false, ◌&&◌, false≢true}
use mathlib.Core.List.{List, [], ◌∷◌}
use native.Mathlib.Omega.{arith}
use lib.Dec.{ltb, leb}
use lib.ListN.{length, get_or, drop}
use borrow.Author.Tests.{ltb-true, ltb-false, lt-ltb, le-ltb, le-leb, leb-true}
use Rattle.sexp.specs.Decimal.{digits_onto, decimal_onto, is_digit}

-- which bytes are digits
pub both_true : (a b : Bool) → a && b ≡ true → (a ≡ true) × (b ≡ true)
both_true true b e = (refl, e)
both_true false b e = absurd (false≢true e)

pub digit-is : (c : ℕ) → 48 ≤ c → c ≤ 57 → is_digit c ≡ true
unfolding is_digit
digit-is c h h' = rw (le-leb 48 c h, le-leb c 57 h')

pub digit_low : (c : ℕ) → is_digit c ≡ true → 48 ≤ c
unfolding is_digit
digit_low c e = leb-true 48 c (both_true (leb 48 c) (leb c 57) e).0

pub digit-high : (c : ℕ) → is_digit c ≡ true → c ≤ 57
unfolding is_digit
digit-high c e = leb-true c 57 (both_true (leb 48 c) (leb c 57) e).1

-- any bound above n gives the digits of n
pub above-is-enough : (f g n : ℕ) (k : List ℕ) → n < f → n < g → digits_onto f n k ≡ digits_onto g n k
above-is-enough zero g n k h h' = absurd (omega arith)
above-is-enough (suc f) zero n k h h' = absurd (omega arith)
above-is-enough (suc f) (suc g) n k h h' = go (ltb n 10) refl (above-is-enough f g (n / 10) ((48 + n % 10) ∷ k))
  where
    go : (b : Bool) → ltb n 10 ≡ b → (n / 10 < f → n / 10 < g → digits_onto f (n / 10) ((48 + n % 10) ∷ k) ≡ digits_onto g (n / 10) ((48 + n % 10) ∷ k)) → digits_onto (suc f) n k ≡ digits_onto (suc g) n k
    go true e ih = rw (e, digits_onto)
    go false e ih =
        let big : 10 ≤ n = ltb-false n 10 e in
        rw (e, digits_onto) (ih (omega arith) (omega arith))

-- one digit
pub onto-small : (n : ℕ) (k : List ℕ) → n < 10 → decimal_onto n k ≡ (48 + n) ∷ k
unfolding decimal_onto
onto-small n k h = rw (lt-ltb n 10 h, digits_onto) refl

-- one digit more
pub onto-step : (v d : ℕ) (k : List ℕ) → 0 < v → d < 10 → decimal_onto (v * 10 + d) k ≡ decimal_onto v ((48 + d) ∷ k)
unfolding decimal_onto
onto-step v d k h h' =
    rw (le-ltb (v * 10 + d) 10 (omega arith), digits_onto)
    (ap (λ (x : ℕ). digits_onto (v * 10 + d) x ((48 + (v * 10 + d) % 10) ∷ k)) (omega arith)
    ∙ ap (λ (x : ℕ). digits_onto (v * 10 + d) v ((48 + x) ∷ k)) (omega arith)
    ∙ above-is-enough (v * 10 + d) (suc v) v ((48 + d) ∷ k) (omega arith) (omega arith))

-- what holds of one digit, and of one digit more, holds of every number
pub by_digits : (P : ℕ → Type 0) → ((n : ℕ) → n < 10 → P n) → ((v d : ℕ) → 0 < v → d < 10 → P v → P (v * 10 + d)) → (n : ℕ) → P n
by_digits P one more n = go n n (omega arith)
  where
    go : (f n : ℕ) → n ≤ f → P n
    go zero n h = one n (omega arith)
    go (suc f) n h = at (ltb n 10) refl (λ h. go f (n / 10) h)
      where
        at : (b : Bool) → ltb n 10 ≡ b → (n / 10 ≤ f → P (n / 10)) → P n
        at true e ih = one n (ltb-true n 10 e)
        at false e ih = let big = ltb-false n 10 e in subst P {x = n / 10 * 10 + n % 10} {y = n} (omega arith) (more (n / 10) (n % 10) (omega arith) (omega arith) (ih (omega arith)))

-- how long a number is does not depend on what follows
abbrev Adds : ℕ → Type 0
Adds n = (k : List ℕ) → length (decimal_onto n k) ≡ length (decimal_onto n []) + length k

pub onto-length : (n : ℕ) → Adds n
onto-length = by_digits Adds one more
  where
    one : (n : ℕ) → n < 10 → Adds n
    one n h k = rw (onto-small n k h) (rw (onto-small n [] h) (omega arith))

    more : (v d : ℕ) → 0 < v → d < 10 → Adds v → Adds (v * 10 + d)
    more v d h h' ih k =
        let a = ap length (onto-step v d k h h') in
        let b = ap length (onto-step v d [] h h') in
        let x = ih ((48 + d) ∷ k) in
        let y = ih ((48 + d) ∷ []) in
        omega (arith, a, b, x, y)

-- a number begins with a digit
abbrev pub DigitFirst : List ℕ → Type 0
DigitFirst w = (c : ℕ) × (r : List ℕ) × (w ≡ c ∷ r) × ((48 ≤ c) × (c ≤ 57))

pub onto-first : (n : ℕ) (k : List ℕ) → DigitFirst (decimal_onto n k)
onto-first = by_digits (λ n. (k : List ℕ) → DigitFirst (decimal_onto n k)) one more
  where
    one : (n : ℕ) → n < 10 → (k : List ℕ) → DigitFirst (decimal_onto n k)
    one n h k = (48 + n, k, onto-small n k h, (omega arith, omega arith))

    more : (v d : ℕ) → 0 < v → d < 10 → ((k : List ℕ) → DigitFirst (decimal_onto v k)) → (k : List ℕ) → DigitFirst (decimal_onto (v * 10 + d) k)
    more v d h h' ih k = let (c, r, e, l) = ih ((48 + d) ∷ k) in (c, r, onto-step v d k h h' ∙ e, l)

-- what the digits at the front say after v, and what follows them
abbrev pub value_from : ℕ → List ℕ → ℕ × List ℕ
value_from v [] = (v, [])
value_from v (c ∷ r) = elim (is_digit c) [ true ↦ value_from (v * 10 + (c - 48)) r | false ↦ (v, c ∷ r) ]

value-digit : (v d : ℕ) (k : List ℕ) → d < 10 → value_from v ((48 + d) ∷ k) ≡ value_from (v * 10 + d) k
value-digit v d k h =
    rw (digit-is (48 + d) (omega arith) (omega arith), value_from)
    (ap (λ (x : ℕ). value_from (v * 10 + x) k) {x = (48 + d) - 48} {y = d} (omega arith))

-- the digits of n say n
abbrev Says : ℕ → Type 0
Says n = (k : List ℕ) → value_from 0 (decimal_onto n k) ≡ value_from n k

pub value-onto : (n : ℕ) → Says n
value-onto = by_digits Says one more
  where
    one : (n : ℕ) → n < 10 → Says n
    one n h k =
        ap (value_from 0) (onto-small n k h) ∙ value-digit 0 n k h ∙ ap (λ (x : ℕ). value_from x k) {x = 0 * 10 + n} {y = n} (omega arith)

    more : (v d : ℕ) → 0 < v → d < 10 → Says v → Says (v * 10 + d)
    more v d h h' ih k = ap (value_from 0) (onto-step v d k h h') ∙ ih ((48 + d) ∷ k) ∙ value-digit v d k h'

-- what follows a number begins with no digit
abbrev pub NoDigit : List ℕ → Type 0
NoDigit [] = Unit {0}
NoDigit (c ∷ r) = is_digit c ≡ false

value-over : (v : ℕ) (k : List ℕ) → NoDigit k → value_from v k ≡ (v, k)
value-over v [] h = refl
value-over v (c ∷ r) h = rw (h, value_from) refl

-- a number and what follows it are known from the bytes
pub decimal-once : (n m : ℕ) (k l : List ℕ) → NoDigit k → NoDigit l → decimal_onto n k ≡ decimal_onto m l → (n ≡ m) × (k ≡ l)
decimal-once n m k l h h' e =
    let f = sym (value-over n k h) ∙ sym (value-onto n k) ∙ ap (value_from 0) e ∙ value-onto m l ∙ value-over m l h' in
    (ap (λ (p : ℕ × List ℕ). p.0) f, ap (λ (p : ℕ × List ℕ). p.1) f)

-- a number that begins with 0 is 0: there is no leading zero
abbrev ZeroFirst : ℕ → Type 0
ZeroFirst n = (k r : List ℕ) → decimal_onto n k ≡ 48 ∷ r → (n ≡ 0) × (k ≡ r)

pub no-leading-zero : (n : ℕ) → ZeroFirst n
no-leading-zero = by_digits ZeroFirst one more
  where
    one : (n : ℕ) → n < 10 → ZeroFirst n
    one n h k r e =
        let f = sym (onto-small n k h) ∙ e in
        let g = ap (λ (w : List ℕ). get_or w 0 0) f in
        (omega arith, ap (drop 1) f)

    more : (v d : ℕ) → 0 < v → d < 10 → ZeroFirst v → ZeroFirst (v * 10 + d)
    more v d h h' ih k r e = let z = (ih ((48 + d) ∷ k) r (sym (onto-step v d k h h') ∙ e)).0 in absurd (omega arith)
