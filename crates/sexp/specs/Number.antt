-- What is read of a decimal number that stands in bytes (document 01, "The carrier and the words"). A value that no machine word holds counts as the largest
-- word: no file is that long, so no answer depends on it.
use Rattle.std.specs.Prelude.{ℕ, ◌<◌, ◌≤◌, min, ◌≡◌, false, List, length, drop, get_or}
use Rattle.sexp.specs.Decimal.{decimal_onto, is_digit}

abbrev pub largest : ℕ
largest = 18446744073709551615

-- the bytes from `at` to `i` are the digits of worth, of which v is what a machine word holds
pub record Digits (s : List ℕ) (at v i : ℕ) : Type 0 where
  pub worth : ℕ
  pub clipped : v ≡ min worth largest
  pub after : at < i
  pub inside : i ≤ length s
  pub reads : drop at s ≡ decimal_onto worth (drop i s)

-- and the number ends there: it is 0, or no digit follows (past the end every byte counts as 0)
pub record Number (s : List ℕ) (at v i : ℕ) : Type 0 where
  pub digits : Digits s at v i
  pub over : 0 < digits.worth → is_digit (get_or s i 0) ≡ false
