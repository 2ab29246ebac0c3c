-- What is said of the plain string at an offset of any bytes: where its octets lie, or that none stands there (document 01, "The carrier and the words").
use Rattle.std.specs.Prelude.{ℕ, ◌+◌, ◌≡◌, List, length, take, drop, Option, Some, None}
use Rattle.sexp.specs.Sexp.{str, spell, Stands}

-- the plain string that stands at an offset is that of the n octets from b on, and ends with them
pub record Plain (s : List ℕ) (at b n : ℕ) : Type 0 where
  pub octets : List ℕ
  pub stands : Stands s at (str octets)
  pub lies : octets ≡ take n (drop b s)
  pub count : length octets ≡ n
  pub ends : b + n ≡ at + length (spell (str octets))

abbrev pub PlainAt : List ℕ → ℕ → Option (ℕ × ℕ) → Type 0
PlainAt s at (Some (b, n)) = Plain s at b n
PlainAt s at None = (w : List ℕ) → Stands s at (str w) → ⊥
