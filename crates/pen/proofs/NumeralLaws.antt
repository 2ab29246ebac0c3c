-- A number in decimal, put digit by digit, and as a string of its digits.
use Prim.Native.Nat.{ℕ, ◌+◌, ◌*◌, ◌/◌, ◌%◌, ◌≤◌, ◌<◌}
use mathlib.Core.Path.{◌≡◌, sym, ◌∙◌, ap}
use mathlib.Core.List.{List, [], ◌∷◌, ◌++◌, append-nil}
use native.Mathlib.Omega.{arith}
use lib.ListN.{length, length-append}
use Rattle.sexp.specs.Decimal.{decimal}
use Rattle.sexp.proofs.DecimalLaws.{onto-small, onto-step, by_digits}
use Rattle.sexp.proofs.OntoLaws.{decimal-onto}
use Rattle.pen.specs.Laid.{Puts}
use Rattle.pen.specs.Numeral.{numeral}
use Rattle.pen.proofs.LaidLaws.{puts_then, puts-as}

pub decimal-small : (n : ℕ) → n < 10 → decimal n ≡ (48 + n % 10) ∷ []
unfolding decimal
decimal-small n l = onto-small n [] l ∙ ap (λ (x : ℕ). (48 + x) ∷ []) {x = n} {y = n % 10} (omega arith)

pub decimal-more : (n : ℕ) → 10 ≤ n → decimal n ≡ decimal (n / 10) ++ ((48 + n % 10) ∷ [])
unfolding decimal
decimal-more n l =
    ap decimal {x = n} {y = (n / 10) * 10 + n % 10} (omega arith)
    ∙ onto-step (n / 10) (n % 10) [] (omega arith) (omega arith)
    ∙ decimal-onto (n / 10) ((48 + n % 10) ∷ [])

-- how many digits there are
pub length-small : (n : ℕ) → n < 10 → length (decimal n) ≡ 1
length-small n l = ap length (decimal-small n l)

pub length_more : (n : ℕ) → 10 ≤ n → length (decimal n) ≡ length (decimal (n / 10)) + 1
length_more n l = ap length (decimal-more n l) ∙ length-append (decimal (n / 10)) ((48 + n % 10) ∷ [])

abbrev Few : ℕ → Type 0
Few n = length (decimal n) ≤ n + 1

pub few-digits : (n : ℕ) → Few n
few-digits = by_digits Few (λ n l. omega (arith, length-small n l)) (λ v d h l few. more v d h l few)
  where
    more : (v d : ℕ) → 0 < v → d < 10 → Few v → Few (v * 10 + d)
    more v d h l few =
        let e : length (decimal ((v * 10 + d) / 10)) ≡ length (decimal v) = ap (λ (x : ℕ). length (decimal x)) {x = (v * 10 + d) / 10} {y = v} (omega arith) in
        omega (arith, length_more (v * 10 + d) (omega arith), e)

-- the last digit behind the others
module _ (n : ℕ) {at m : ℕ} {d d1 : List ℕ} where
  pub puts-small : n < 10 → Puts at ((48 + n % 10) ∷ []) d d1 m → Puts at (decimal n) d d1 m
  puts-small l p = puts-as (sym (decimal-small n l)) p

  pub puts-decimal : {k : ℕ} {e : List ℕ} → 10 ≤ n → Puts at (decimal (n / 10)) d e k → Puts k ((48 + n % 10) ∷ []) e d1 m → Puts at (decimal n) d d1 m
  puts-decimal l p q = puts-as (sym (decimal-more n l)) (puts_then p q)

-- a number's string: how many digits, a colon, the digits
pub numeral-parts : (i : ℕ) → numeral i ≡ decimal (length (decimal i)) ++ (58 ∷ decimal i)
unfolding numeral
numeral-parts i = decimal-onto (length (decimal i)) (58 ∷ (decimal i ++ [])) ∙ ap (λ (x : List ℕ). decimal (length (decimal i)) ++ (58 ∷ x)) (append-nil (decimal i))

pub puts-numeral : (i : ℕ) {at k l m : ℕ} {d d1 d2 d3 : List ℕ} (n : ℕ) → n ≡ length (decimal i) → Puts at (decimal n) d d1 k → Puts k (58 ∷ []) d1 d2 l → Puts l (decimal i) d2 d3 m → Puts at (numeral i) d d3 m
puts-numeral i n e p c q = puts-as (ap (λ (x : ℕ). decimal x ++ (58 ∷ decimal i)) e ∙ sym (numeral-parts i)) (puts_then p (puts_then c q))
