-- Every sequent that is derived is one: all its formulas are over its signature, by the definition of Derivation (document 004, section 2). As this holds of any derivation, it holds at
-- every sequent inside one.
use mathlib.Core.List.{List}
use Rattle.calculus.specs.Formula.{Formula}
use Rattle.calculus.specs.Signature.{Signature, IsSequent}
use Rattle.calculus.specs.Derivation.{Derivation}

pub is-sequent : {S : Type 0} {Σ : Signature S} {Γ : List (Formula S)} {C : Formula S} → Derivation Σ Γ C → IsSequent Σ Γ C
is-sequent (Derivation.id q m) = q
is-sequent (Derivation.cut q m n D E) = q
is-sequent (Derivation.contr-L q m n D) = q
is-sequent (Derivation.weak-L q m D) = q
is-sequent (Derivation.bottom-L q m) = q
is-sequent (Derivation.top-R q) = q
is-sequent (Derivation.and-L₁ q m n D) = q
is-sequent (Derivation.and-L₂ q m n D) = q
is-sequent (Derivation.and-R q D E) = q
is-sequent (Derivation.or-L q m n l D E) = q
is-sequent (Derivation.or-R₁ q D) = q
is-sequent (Derivation.or-R₂ q D) = q
is-sequent (Derivation.implies-L q m n D E) = q
is-sequent (Derivation.implies-R q m D) = q
is-sequent (Derivation.all-L t q m h n D) = q
is-sequent (Derivation.all-R y q h e D) = q
is-sequent (Derivation.some-L y q m h n D) = q
is-sequent (Derivation.some-R t q h e D) = q
