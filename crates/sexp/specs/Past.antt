-- What is said of the offset past an expression that stands at an offset of any bytes and nests at most so deep, or that none does.
use Rattle.std.specs.Prelude.{ℕ, ◌+◌, ◌≤◌, ◌≡◌, List, length, Option, Some, None}
use Rattle.sexp.specs.Sexp.{Sexp, spell, nesting, Stands}

-- an expression that nests at most so deep stands from an offset up to n
pub record Ends (s : List ℕ) (at nest n : ℕ) : Type 0 where
  pub expression : Sexp
  pub stands : Stands s at expression
  pub shallow : nesting expression ≤ nest
  pub ends : n ≡ at + length (spell expression)

abbrev pub PastAt : List ℕ → ℕ → ℕ → Option ℕ → Type 0
PastAt s at nest (Some n) = Ends s at nest n
PastAt s at nest None = (e : Sexp) → Stands s at e → nesting e ≤ nest → ⊥

-- a list that holds no other stands from an offset up to n, or nothing is said
abbrev pub PairEnd : List ℕ → ℕ → Option ℕ → Type 0
PairEnd s at (Some n) = Ends s at 1 n
PairEnd s at None = Unit {0}
