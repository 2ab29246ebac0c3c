-- The formulas of Figure 1, taken first order (document 004, section 2, "Formulas as simply typed terms"; which of them are atomic: document 003, section 2).
-- A quantifier carries the sort of its variable, of a type S of sorts; the first edition has one sort. Terms and atoms are those of crate `harrop`: variable `v` i is that of the
-- quantifier i places outward. Left out: predicate variables and lambda terms.
use Rattle.harrop.specs.Formula.{Atom}

pub data Formula (S : Type 0) : Type 0 where
  atom : Atom → Formula S
  top : Formula S
  bottom : Formula S
  and : Formula S → Formula S → Formula S
  or : Formula S → Formula S → Formula S
  implies : Formula S → Formula S → Formula S
  all : S → Formula S → Formula S
  some : S → Formula S → Formula S

-- a formula whose top-level symbol is no logical constant; top and bottom are not atomic
abbrev pub Atomic : {S : Type 0} → Formula S → Type 0
Atomic (Formula.atom a) = Unit {0}
Atomic Formula.top = ⊥
Atomic Formula.bottom = ⊥
Atomic (Formula.and B C) = ⊥
Atomic (Formula.or B C) = ⊥
Atomic (Formula.implies B C) = ⊥
Atomic (Formula.all s B) = ⊥
Atomic (Formula.some s B) = ⊥
