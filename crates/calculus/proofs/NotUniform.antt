-- Definition 2 asks something: `p ∨ q → q ∨ p` has a derivation (Table, by-cases) and no uniform one where p and q are of different symbols, as document 004 says in section 3; and top is
-- not atomic, so id does not end a uniform proof of it.
use mathlib.Core.Path.{sym}
use mathlib.Core.List.{List, [], ◌∷◌}
use native.Mathlib.Omega.{arith}
use Rattle.harrop.specs.Formula.{Atom}
use Rattle.calculus.specs.Formula.{Formula}
use Rattle.calculus.specs.Symbol.{predicate_of}
use Rattle.calculus.specs.Multiset.{◌≈◌}
use Rattle.calculus.specs.Signature.{Signature, IsSequent}
use Rattle.calculus.specs.Derivation.{Derivation}
use Rattle.calculus.specs.Uniform.{RightFirst}
use Rattle.calculus.proofs.Sound.{sound}
use Rattle.calculus.proofs.Underivable.{Distinct, one_for, one-for-itself, zero-for-others}

module _ {S : Type 0} {Σ : Signature S} (a b : Atom) (n : Distinct a b) where
  -- neither disjunct follows
  no-first : ¬ (Derivation Σ (Formula.or (Formula.atom a) (Formula.atom b) ∷ []) (Formula.atom b))
  no-first d =
      let h = sound (one_for (predicate_of a)) d in
      let x = one-for-itself (predicate_of a) in
      let y = zero-for-others (predicate_of a) (predicate_of b) n in
      omega arith

  no_second : ¬ (Derivation Σ (Formula.or (Formula.atom a) (Formula.atom b) ∷ []) (Formula.atom a))
  no_second d =
      let h = sound (one_for (predicate_of b)) d in
      let x = one-for-itself (predicate_of b) in
      let y = zero-for-others (predicate_of b) (predicate_of a) (λ e. n (sym e)) in
      omega arith

  pub not-uniform : (d : Derivation Σ (Formula.or (Formula.atom a) (Formula.atom b) ∷ []) (Formula.or (Formula.atom b) (Formula.atom a))) → ¬ (RightFirst d)
  not-uniform (Derivation.id q m) u = u (λ x. x)
  not-uniform (Derivation.cut q m k D E) u = u.0 (λ x. x)
  not-uniform (Derivation.contr-L q m k D) u = u.0 (λ x. x)
  not-uniform (Derivation.weak-L q m D) u = u.0 (λ x. x)
  not-uniform (Derivation.bottom-L q m) u = u (λ x. x)
  not-uniform (Derivation.and-L₁ q m k D) u = u.0 (λ x. x)
  not-uniform (Derivation.and-L₂ q m k D) u = u.0 (λ x. x)
  not-uniform (Derivation.or-L q m k l D E) u = u.0 (λ x. x)
  not-uniform (Derivation.or-R₁ q D) u = no-first D
  not-uniform (Derivation.or-R₂ q D) u = no_second D
  not-uniform (Derivation.implies-L q m k D E) u = u.0 (λ x. x)
  not-uniform (Derivation.all-L t q m h k D) u = u.0 (λ x. x)
  not-uniform (Derivation.some-L y q m h k D) u = u.0 (λ x. x)

pub not-by-id : {S : Type 0} {Σ : Signature S} {Θ : List (Formula S)} (q : IsSequent Σ Θ Formula.top) (m : Θ ≈ (Formula.top ∷ [])) → ¬ (RightFirst (Derivation.id {Σ = Σ} q m))
not-by-id q m u = u (λ x. x)
