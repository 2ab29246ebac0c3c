-- A word's octets as one number, by which the code tells words apart: a 1, and then the octets in order, each a digit to the base 256. No two strings have the same.
use Rattle.std.specs.Prelude.{ℕ, ◌+◌, ◌*◌, ◌≡◌, List, [], ◌∷◌}
use Rattle.sexp.specs.Meaning.{Octets}

unfoldable pub key_from : ℕ → List ℕ → ℕ
key_from k [] = k
key_from k (c ∷ w) = key_from (k * 256 + c) w

unfoldable pub key_of : List ℕ → ℕ
key_of w = key_from 1 w

-- k is the number of w, and w is of octets
pub record Keyed (w : List ℕ) (k : ℕ) : Type 0 where
  pub octets : Octets w
  pub key : k ≡ key_of w
