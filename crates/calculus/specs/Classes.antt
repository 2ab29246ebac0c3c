-- First-order hereditary Harrop formulas: the sets G3 and D3 as document 003's appendix prints them.
-- G := ⊤ | A | G ∧ G | G ∨ G | ∀x G | ∃x G | D ⊃ G and D := A | G ⊃ A | ∀x D | D ∧ D, where A is an atomic formula.
use Rattle.harrop.specs.Formula.{Atom}
use Rattle.calculus.specs.Formula.{Formula}

mutual
  pub data G3 {S : Type 0} : Formula S → Type 0 where
    top : G3 Formula.top
    atom : {a : Atom} → G3 (Formula.atom a)
    and : {G₁ G₂ : Formula S} → G3 G₁ → G3 G₂ → G3 (Formula.and G₁ G₂)
    or : {G₁ G₂ : Formula S} → G3 G₁ → G3 G₂ → G3 (Formula.or G₁ G₂)
    all : {s : S} {G : Formula S} → G3 G → G3 (Formula.all s G)
    some : {s : S} {G : Formula S} → G3 G → G3 (Formula.some s G)
    implies : {D G : Formula S} → D3 D → G3 G → G3 (Formula.implies D G)

  pub data D3 {S : Type 0} : Formula S → Type 0 where
    atom_d : {a : Atom} → D3 (Formula.atom a)
    implies_d : {G : Formula S} {a : Atom} → G3 G → D3 (Formula.implies G (Formula.atom a))
    all_d : {s : S} {D : Formula S} → D3 D → D3 (Formula.all s D)
    and_d : {D₁ D₂ : Formula S} → D3 D₁ → D3 D₂ → D3 (Formula.and D₁ D₂)
