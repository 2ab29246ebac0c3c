-- Numbers of one to three digits: which strings they are, and what they say. From document 01, "A number has one to three digits and no leading zero, save 0".
use Prim.Native.Nat.{ℕ, ◌+◌, ◌*◌, ◌-◌, ◌/◌, ◌%◌, ◌≤◌, ◌<◌}
use mathlib.Core.Path.{◌≡◌, refl, sym, ◌∙◌, ap}
use mathlib.Core.Bool.{Bool, true, false, ◌&&◌, not, false≢true}
use mathlib.Core.List.{List, [], ◌∷◌}
use native.Mathlib.Omega.{arith}
use lib.Dec.{ltb, leb, eqb}
use lib.ListN.{length}
use borrow.Author.Tests.{ltb-true, ltb-false, leb-true, eqb-false, ne_eqb, not-true}
use Rattle.basics.specs.Choice.{both_true}
use Rattle.sexp.specs.Decimal.{decimal_onto, decimal, is_digit}
use Rattle.sexp.specs.Words.{every, no_leading_zero, is_number, worth_after, worth}
use Rattle.sexp.proofs.DecimalLaws.{digit-is, digit_low, digit-high, onto-small, onto-step, by_digits}

-- the digits of n say n
abbrev Worth : ℕ → Type 0
Worth n = (k : List ℕ) → worth_after 0 (decimal_onto n k) ≡ worth_after n k

worth-onto : (n : ℕ) → Worth n
unfolding worth_after
worth-onto = by_digits Worth one more
  where
    one : (n : ℕ) → n < 10 → Worth n
    one n h k = ap (worth_after 0) (onto-small n k h) ∙ ap (λ (x : ℕ). worth_after x k) {x = 0 * 10 + ((48 + n) - 48)} {y = n} (omega arith)

    more : (v d : ℕ) → 0 < v → d < 10 → Worth v → Worth (v * 10 + d)
    more v d h h' ih k =
        ap (worth_after 0) (onto-step v d k h h')
        ∙ ih ((48 + d) ∷ k)
        ∙ ap (λ (x : ℕ). worth_after x k) {x = v * 10 + ((48 + d) - 48)} {y = v * 10 + d} (omega arith)

pub worth-decimal : (n : ℕ) → worth (decimal n) ≡ n
unfolding worth decimal worth_after
worth-decimal n = worth-onto n []

-- the digits of a number of one, two or three
decimal-1 : (a : ℕ) → a < 10 → decimal a ≡ (48 + a) ∷ []
unfolding decimal
decimal-1 a h = onto-small a [] h

decimal-2 : (a b : ℕ) → 0 < a → a < 10 → b < 10 → decimal (a * 10 + b) ≡ (48 + a) ∷ (48 + b) ∷ []
unfolding decimal
decimal-2 a b p h h' = onto-step a b [] p h' ∙ onto-small a ((48 + b) ∷ []) h

decimal-3 : (a b c : ℕ) → 0 < a → a < 10 → b < 10 → c < 10 → decimal ((a * 10 + b) * 10 + c) ≡ (48 + a) ∷ (48 + b) ∷ (48 + c) ∷ []
unfolding decimal
decimal-3 a b c p h h' h'' = onto-step (a * 10 + b) c [] (omega arith) h'' ∙ onto-step a b ((48 + c) ∷ []) p h' ∙ onto-small a ((48 + b) ∷ (48 + c) ∷ []) h

-- a digit, and one that is not 0
digit : (a : ℕ) → a < 10 → is_digit (48 + a) ≡ true
digit a h = digit-is (48 + a) (omega arith) (omega arith)

no_zero : (a : ℕ) → 0 < a → eqb (48 + a) 48 ≡ false
no_zero a p = ne_eqb (48 + a) 48 (λ e. omega arith)

number-1 : (a : ℕ) → a < 10 → is_number ((48 + a) ∷ []) ≡ true
unfolding is_number every no_leading_zero
number-1 a h = rw (digit a h) refl

number-2 : (a b : ℕ) → 0 < a → a < 10 → b < 10 → is_number ((48 + a) ∷ (48 + b) ∷ []) ≡ true
unfolding is_number every no_leading_zero
number-2 a b p h h' = rw (digit a h) (rw (digit b h') (rw (no_zero a p) refl))

number-3 : (a b c : ℕ) → 0 < a → a < 10 → b < 10 → c < 10 → is_number ((48 + a) ∷ (48 + b) ∷ (48 + c) ∷ []) ≡ true
unfolding is_number every no_leading_zero
number-3 a b c p h h' h'' = rw (digit a h) (rw (digit b h') (rw (digit c h'') (rw (no_zero a p) refl)))

-- what is at most 999 is a number
pub decimal-is : (n : ℕ) → n ≤ 999 → is_number (decimal n) ≡ true
decimal-is n h = go (ltb n 10) refl (ltb n 100) refl
  where
    go : (s : Bool) → ltb n 10 ≡ s → (t : Bool) → ltb n 100 ≡ t → is_number (decimal n) ≡ true
    go true e t f = let l = ltb-true n 10 e in ap is_number (decimal-1 n l) ∙ number-1 n l
    go false e true f =
        let l = ltb-false n 10 e in
        let u = ltb-true n 100 f in
        let a : ℕ = n / 10 in
        let b : ℕ = n % 10 in
        ap (λ (x : ℕ). is_number (decimal x)) {x = n} {y = a * 10 + b} (omega arith)
        ∙ ap is_number (decimal-2 a b (omega arith) (omega arith) (omega arith))
        ∙ number-2 a b (omega arith) (omega arith) (omega arith)
    go false e false f =
        let l = ltb-false n 100 f in
        let a : ℕ = n / 100 in
        let b : ℕ = n / 10 % 10 in
        let c : ℕ = n % 10 in
        ap (λ (x : ℕ). is_number (decimal x)) {x = n} {y = (a * 10 + b) * 10 + c} (omega arith)
        ∙ ap is_number (decimal-3 a b c (omega arith) (omega arith) (omega arith) (omega arith))
        ∙ number-3 a b c (omega arith) (omega arith) (omega arith) (omega arith)

-- and a number is the digits of what it says, which is at most 999
abbrev pub Says : List ℕ → Type 0
Says w = (w ≡ decimal (worth w)) × (worth w ≤ 999)

says-1 : (a : ℕ) → a < 10 → Says ((48 + a) ∷ [])
unfolding worth worth_after
says-1 a h = (sym (decimal-1 a h) ∙ ap decimal {x = a} {y = worth ((48 + a) ∷ [])} (omega arith), omega arith)

says-2 : (a b : ℕ) → 0 < a → a < 10 → b < 10 → Says ((48 + a) ∷ (48 + b) ∷ [])
unfolding worth worth_after
says-2 a b p h h' = (sym (decimal-2 a b p h h') ∙ ap decimal {x = a * 10 + b} {y = worth ((48 + a) ∷ (48 + b) ∷ [])} (omega arith), omega arith)

says-3 : (a b c : ℕ) → 0 < a → a < 10 → b < 10 → c < 10 → Says ((48 + a) ∷ (48 + b) ∷ (48 + c) ∷ [])
unfolding worth worth_after
says-3 a b c p h h' h'' = (
  sym (decimal-3 a b c p h h' h'') ∙ ap decimal {x = (a * 10 + b) * 10 + c} {y = worth ((48 + a) ∷ (48 + b) ∷ (48 + c) ∷ [])} (omega arith),
  omega arith,
)

-- a digit by its value
abbrev Valued : ℕ → Type 0
Valued c = (a : ℕ) × (a < 10) × (48 + a ≡ c)

valued : (c : ℕ) → is_digit c ≡ true → Valued c
valued c e = let lo = digit_low c e in let hi = digit-high c e in (c - 48, omega arith, omega arith)

-- the parts of the test
abbrev Parts : ℕ → List ℕ → Type 0
Parts c w = (is_digit c ≡ true) × (every is_digit w ≡ true) × (leb (length w) 2 ≡ true) × (no_leading_zero c w ≡ true)

parts : (c : ℕ) (w : List ℕ) → is_number (c ∷ w) ≡ true → Parts c w
unfolding is_number
parts c w e =
    let (f, t) = both_true (is_digit c && every is_digit w && leb (length w) 2) (no_leading_zero c w) e in
    let (g, z) = both_true (is_digit c && every is_digit w) (leb (length w) 2) f in
    let (x, y) = both_true (is_digit c) (every is_digit w) g in
    (x, y, z, t)

-- a leading digit that is not 0 says more than 0
leading : (c a : ℕ) → 48 + a ≡ c → not (eqb c 48) ≡ true → 0 < a
leading c a f e = go (ltb 0 a) refl
  where
    go : (b : Bool) → ltb 0 a ≡ b → 0 < a
    go true t = ltb-true 0 a t
    go false t = let z = ltb-false 0 a t in absurd (eqb-false c 48 (not-true (eqb c 48) e) (omega arith))

back-1 : (c : ℕ) → Valued c → Says (c ∷ [])
back-1 c (a, h, f) = rw (← f) (says-1 a h)

back-2 : (c d : ℕ) → Valued c → Valued d → not (eqb c 48) ≡ true → Says (c ∷ d ∷ [])
back-2 c d (a, h, f) (b, h', f') n = let p = leading c a f n in rw (← f) (rw (← f') (says-2 a b p h h'))

back-3 : (c d x : ℕ) → Valued c → Valued d → Valued x → not (eqb c 48) ≡ true → Says (c ∷ d ∷ x ∷ [])
back-3 c d x (a, h, f) (b, h', f') (m, h'', f'') n = let p = leading c a f n in rw (← f) (rw (← f') (rw (← f'') (says-3 a b m p h h' h'')))

pub number-back : (w : List ℕ) → is_number w ≡ true → Says w
unfolding every no_leading_zero is_number
number-back [] e = absurd (false≢true e)
number-back (c ∷ []) e = back-1 c (valued c (parts c [] e).0)
number-back (c ∷ d ∷ []) e =
    let p = parts c (d ∷ []) e in
    back-2 c d (valued c p.0) (valued d (both_true (is_digit d) true p.1).0) p.3
number-back (c ∷ d ∷ x ∷ []) e =
    let p = parts c (d ∷ x ∷ []) e in
    let (q, r) = both_true (is_digit d) (is_digit x && true) p.1 in
    back-3 c d x (valued c p.0) (valued d q) (valued x (both_true (is_digit x) true r).0) p.3
number-back (c ∷ d ∷ x ∷ y ∷ w) e = absurd (omega (arith, leb-true (length (d ∷ x ∷ y ∷ w)) 2 (parts c (d ∷ x ∷ y ∷ w) e).2))
