-- What Figure 1 does not derive, with or without cut, over any signature: an atom from nothing, Peirce's law, and (p ⊃ q) ∨ p (document 01, cases 9 and 10), for p and q of different symbols:
-- another name, or the same with another number of arguments. All by `sound`.
use Prim.Native.Nat.{ℕ, max}
use mathlib.Core.Path.{◌≡◌, refl, sym, ap, ap₂}
use mathlib.Core.Bool.{Bool, true, false, ◌&&◌}
use mathlib.Core.List.{[]}
use native.Mathlib.Omega.{arith}
use lib.Dec.{eqb}
use borrow.Author.Tests.{eqb-true, eq-eqb}
use Rattle.basics.specs.Choice.{choose, both_true}
use Rattle.harrop.specs.Formula.{Name, Terms, Atom}
use Rattle.harrop.specs.Bindings.{same_name}
use Rattle.harrop.proofs.SameLaws.{same-names-equal, name-same}
use Rattle.calculus.specs.Formula.{Formula}
use Rattle.calculus.specs.Symbol.{Symbol, predicate_of}
use Rattle.calculus.specs.Signature.{Signature}
use Rattle.calculus.specs.Derivation.{Derivation}
use Rattle.calculus.specs.Values.{implied, value}
use Rattle.calculus.proofs.Sound.{sound}

-- the atom of predicate p
abbrev pub of : {S : Type 0} → Name → Terms → Formula S
of p ts = Formula.atom (Atom.atom p ts)

abbrev pub peirce : {S : Type 0} → Formula S → Formula S → Formula S
peirce P R = Formula.implies (Formula.implies (Formula.implies P R) P) P

abbrev pub either : {S : Type 0} → Formula S → Formula S → Formula S
either P R = Formula.or (Formula.implies P R) P

-- atoms of different symbols
abbrev pub Distinct : Atom → Atom → Type 0
Distinct a b = ¬ (predicate_of a ≡ predicate_of b)

-- 1 for this symbol, 0 for every other
pub one_for : Symbol → Symbol → ℕ
one_for x y = choose (same_name y.0 x.0 && eqb y.1 x.1) 1 0

pub one-for-itself : (x : Symbol) → one_for x x ≡ 1
unfolding one_for
one-for-itself x = ap₂ (λ (b c : Bool). choose (b && c) 1 0) (name-same x.0) (eq-eqb x.1 x.1 refl)

pub zero-for-others : (x y : Symbol) → ¬ (x ≡ y) → one_for x y ≡ 0
unfolding one_for
zero-for-others x y d = go (same_name y.0 x.0 && eqb y.1 x.1) refl
  where
    go : (b : Bool) → (same_name y.0 x.0 && eqb y.1 x.1) ≡ b → choose {A = ℕ} b 1 0 ≡ 0
    go true e =
        let (s, t) = both_true (same_name y.0 x.0) (eqb y.1 x.1) e in
        absurd (d (sym (ap₂ (λ (p : Name) (n : ℕ). (p, n)) (same-names-equal y.0 x.0 s) (eqb-true y.1 x.1 t))))
    go false e = refl

module _ {S : Type 0} {Σ : Signature S} where
  pub no-atom : (a : Atom) → ¬ (Derivation Σ [] (Formula.atom a))
  no-atom a d = let h = sound (λ x. 0) d in omega arith

  pub no-peirce : (a b : Atom) → Distinct a b → ¬ (Derivation Σ [] (peirce (Formula.atom a) (Formula.atom b)))
  no-peirce a b n d =
      let h = sound (one_for (predicate_of a)) d in
      let e : value {S = S} (one_for (predicate_of a)) (peirce (Formula.atom a) (Formula.atom b)) ≡ 1 =
      ap₂ (λ x y. implied (implied (implied x y) x) x) (one-for-itself (predicate_of a)) (zero-for-others (predicate_of a) (predicate_of b) n) in
      omega arith

  pub no-either : (a b : Atom) → Distinct a b → ¬ (Derivation Σ [] (either (Formula.atom a) (Formula.atom b)))
  no-either a b n d =
      let h = sound (one_for (predicate_of a)) d in
      let e : value {S = S} (one_for (predicate_of a)) (either (Formula.atom a) (Formula.atom b)) ≡ 1 =
      ap₂ (λ x y. max (implied x y) x) (one-for-itself (predicate_of a)) (zero-for-others (predicate_of a) (predicate_of b) n) in
      omega arith
