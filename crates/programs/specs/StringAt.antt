-- Where a string of a case file lies (second/README.md): the octets of the plain string that stands at an offset; where none does, nothing, at the end. What stands where is crate sexp's.
use Rattle.std.specs.Prelude.{ℕ, ◌+◌, ◌≡◌, List, length, take, drop, Option, Some, None}
use Rattle.sexp.specs.Strings.{PlainAt}

-- in bytes of which there are n
abbrev pub starts : ℕ → Option (ℕ × ℕ) → ℕ
starts n None = n
starts n (Some (b, count)) = b

abbrev pub ends : ℕ → Option (ℕ × ℕ) → ℕ
ends n None = n
ends n (Some (b, count)) = b + count

pub record StringAt (s : List ℕ) (at from to : ℕ) : Type 0 where
  pub octets : Option (ℕ × ℕ)
  pub stands : PlainAt s at octets
  pub start : from ≡ starts (length s) octets
  pub end : to ≡ ends (length s) octets

-- a file cut behind the string that it begins with: its octets, and what comes after them
pub record SplitsString (s octets rest : List ℕ) : Type 0 where
  pub from : ℕ
  pub to : ℕ
  pub string : StringAt s 0 from to
  pub front : octets ≡ drop from (take to s)
  pub back : rest ≡ drop to s
