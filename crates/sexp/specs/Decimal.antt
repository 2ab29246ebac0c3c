-- Decimal numbers without a leading zero, of any number of digits (document 01, "The carrier and the words"), written in front of what follows.
use Rattle.std.specs.Prelude.{ℕ, zero, suc, ◌+◌, ◌/◌, ◌%◌, Bool, true, false, ◌&&◌, List, [], ◌∷◌, ltb, leb}

-- the digits of n in front of k, where f is above n: any such f gives the same digits (`above-is-enough`, proofs/DecimalLaws)
abbrev pub digits_onto : ℕ → ℕ → List ℕ → List ℕ
digits_onto zero n k = k
digits_onto (suc f) n k = elim (ltb n 10) [ true ↦ (48 + n) ∷ k | false ↦ digits_onto f (n / 10) ((48 + n % 10) ∷ k) ]

-- n in decimal in front of k
unfoldable pub decimal_onto : ℕ → List ℕ → List ℕ
decimal_onto n k = digits_onto (suc n) n k

-- n in decimal
unfoldable pub decimal : ℕ → List ℕ
decimal n = decimal_onto n []

unfoldable pub is_digit : ℕ → Bool
is_digit c = leb 48 c && leb c 57
