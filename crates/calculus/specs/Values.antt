-- Formulas valued by numbers: top is 2 and bottom 0, and is the lesser, or the greater, B ⊃ C is 2 if B is at most C, else C's value; a quantifier has its body's value. ν gives an atom the
-- value of its predicate symbol and may give any number; what it gives in proofs/Underivable is 0 or 1, and then all values are 0, 1 or 2. These values show what Figure 1 cannot derive; they
-- are no meaning of formulas.
use Rattle.std.specs.Prelude.{ℕ, min, max, List, [], ◌∷◌, leb}
use Rattle.basics.specs.Choice.{choose}
use Rattle.calculus.specs.Formula.{Formula}
use Rattle.calculus.specs.Symbol.{Symbol, predicate_of}

abbrev pub implied : ℕ → ℕ → ℕ
implied b c = choose (leb b c) 2 c

module _ {S : Type 0} where
  abbrev pub value : (Symbol → ℕ) → Formula S → ℕ
  value ν (Formula.atom a) = ν (predicate_of a)
  value ν Formula.top = 2
  value ν Formula.bottom = 0
  value ν (Formula.and B C) = min (value ν B) (value ν C)
  value ν (Formula.or B C) = max (value ν B) (value ν C)
  value ν (Formula.implies B C) = implied (value ν B) (value ν C)
  value ν (Formula.all s B) = value ν B
  value ν (Formula.some s B) = value ν B

  -- the least value on the left side, 2 if it is empty
  abbrev pub least : (Symbol → ℕ) → List (Formula S) → ℕ
  least ν [] = 2
  least ν (B ∷ Γ) = min (value ν B) (least ν Γ)
