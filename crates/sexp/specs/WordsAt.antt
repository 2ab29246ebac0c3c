-- What is said of the words, names and numbers among the plain strings at an offset of any bytes (document 01, "The carrier and the words").
use Rattle.std.specs.Prelude.{ℕ, ◌+◌, ◌≡◌, true, List, Option, Some, None}
use Rattle.sexp.specs.Sexp.{str, Stands}
use Rattle.sexp.specs.Strings.{Plain}
use Rattle.sexp.specs.Words.{is_name, is_number, worth}

-- a name stands at an offset
pub record Named (s : List ℕ) (at : ℕ) : Type 0 where
  pub octets : List ℕ
  pub stands : Stands s at (str octets)
  pub name : is_name octets ≡ true

-- the same plain string stands at two offsets
pub record Shared (s : List ℕ) (i : ℕ) (t : List ℕ) (j : ℕ) : Type 0 where
  pub octets : List ℕ
  pub here : Stands s i (str octets)
  pub there : Stands t j (str octets)

-- a plain string of n octets whose length is one digit stands at an offset, or nothing is said
abbrev pub ShortAt : List ℕ → ℕ → Option ℕ → Type 0
ShortAt s at (Some n) = Plain s at (at + 2) n
ShortAt s at None = Unit {0}

-- a number that says n stands at an offset
pub record Numeral (s : List ℕ) (at n : ℕ) : Type 0 where
  pub octets : List ℕ
  pub stands : Stands s at (str octets)
  pub number : is_number octets ≡ true
  pub says : n ≡ worth octets

abbrev pub NumberAt : List ℕ → ℕ → Option ℕ → Type 0
NumberAt s at (Some n) = Numeral s at n
NumberAt s at None = (w : List ℕ) → Stands s at (str w) → is_number w ≡ true → ⊥

-- octets are a number that says n
abbrev pub NumeralOf : List ℕ → Option ℕ → Type 0
NumeralOf w (Some n) = (is_number w ≡ true) × (n ≡ worth w)
NumeralOf w None = is_number w ≡ true → ⊥
