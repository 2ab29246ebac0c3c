-- Every rule of Figure 1 keeps the value of the right side at least as high as the least on the left, cut or no cut (specs/Values).
use Prim.Native.Nat.{ℕ, suc, ◌≤◌, min, max}
use mathlib.Core.Path.{◌≡◌, refl, ◌∙◌, ap, ap₂}
use mathlib.Core.Bool.{Bool, true, false}
use mathlib.Core.List.Permᴰ
use mathlib.Core.List.{List, [], ◌∷◌, ◌++◌}
use native.Mathlib.Omega.{arith}
use lib.Dec.{leb}
use borrow.Author.Tests.{leb-true, leb-false}
use Rattle.basics.specs.Choice.{choose}
use Rattle.harrop.specs.Formula.{Term, Terms, Atom}
use Rattle.calculus.specs.Formula.{Formula}
use Rattle.calculus.specs.Symbol.{Symbol, count}
use Rattle.calculus.specs.Substitution.{Substitution, in_terms, in_formula, before, itself, under}
use Rattle.calculus.specs.Multiset.{◌≈◌}
use Rattle.calculus.specs.Signature.{Signature}
use Rattle.calculus.specs.Derivation.{Derivation}
use Rattle.calculus.specs.Values.{implied, value, least}

-- m ≤ B ⊃ C where the lesser of B and m is at most C
implied-over : (m b c : ℕ) → m ≤ 2 → min b m ≤ c → m ≤ implied b c
implied-over m b c h k = go (leb b c) refl
  where
    go : (t : Bool) → leb b c ≡ t → m ≤ choose t 2 c
    go true e = h
    go false e = let l = leb-false b c e in omega arith

-- B ⊃ D and m give C where m gives B, and D with m gives C
implied-under : (m b d c : ℕ) → m ≤ b → min d m ≤ c → min (implied b d) m ≤ c
implied-under m b d c h k = go (leb b d) refl
  where
    go : (t : Bool) → leb b d ≡ t → min (choose t 2 d) m ≤ c
    go true e = let l = leb-true b d e in omega arith
    go false e = k

-- what is put in for variables leaves a symbol its number of arguments
count-of-instance : (σ : Substitution) (ts : Terms) → count (in_terms σ ts) ≡ count ts
count-of-instance σ Terms.nil = refl
count-of-instance σ (Terms.cons t ts) = ap suc (count-of-instance σ ts)

module _ {S : Type 0} (ν : Symbol → ℕ) where
  least-at-most : (Γ : List (Formula S)) → least ν Γ ≤ 2
  least-at-most [] = omega arith
  least-at-most (B ∷ Γ) = let h = least-at-most Γ in omega arith

  least-of-both : (Γ Δ : List (Formula S)) → least ν (Γ ++ Δ) ≡ min (least ν Γ) (least ν Δ)
  least-of-both [] Δ = let h = least-at-most Δ in omega arith
  least-of-both (B ∷ Γ) Δ = let h = least-of-both Γ Δ in omega arith

  -- the order on the left does not matter
  least-same : {Γ Δ : List (Formula S)} → Γ ≈ Δ → least ν Γ ≡ least ν Δ
  least-same Permᴰ.nil = refl
  least-same (Permᴰ.cons e d) = ap₂ min (ap (value ν) e) (least-same d)
  least-same (Permᴰ.swap e₁ e₂) =
      let x = ap (value ν) e₁ in
      let y = ap (value ν) e₂ in
      omega arith
  least-same (Permᴰ.trans d₁ d₂) = least-same d₁ ∙ least-same d₂

  -- what is put in for variables changes no value
  value-of-instance : (σ : Substitution) (B : Formula S) → value ν (in_formula σ B) ≡ value ν B
  value-of-instance σ (Formula.atom (Atom.atom p ts)) = ap (λ (n : ℕ). ν (p, n)) (count-of-instance σ ts)
  value-of-instance σ Formula.top = refl
  value-of-instance σ Formula.bottom = refl
  value-of-instance σ (Formula.and B C) = ap₂ min (value-of-instance σ B) (value-of-instance σ C)
  value-of-instance σ (Formula.or B C) = ap₂ max (value-of-instance σ B) (value-of-instance σ C)
  value-of-instance σ (Formula.implies B C) = ap₂ implied (value-of-instance σ B) (value-of-instance σ C)
  value-of-instance σ (Formula.all s B) = value-of-instance (under σ) B
  value-of-instance σ (Formula.some s B) = value-of-instance (under σ) B

  -- every derivation, with or without cut
  pub sound : {Σ : Signature S} {Γ : List (Formula S)} {C : Formula S} → Derivation Σ Γ C → least ν Γ ≤ value ν C
  sound (Derivation.id q m) = let a = least-same m in omega arith
  sound (Derivation.cut {Γ = Γ} {Δ = Δ} q m n D E) =
      let a = least-same m in
      let b = least-same n in
      let c = least-of-both Γ Δ in
      let d = sound D in
      let e = sound E in
      omega arith
  sound (Derivation.contr-L q m n D) = let a = least-same m in let b = least-same n in let d = sound D in omega arith
  sound (Derivation.weak-L q m D) = let a = least-same m in let d = sound D in omega arith
  sound (Derivation.bottom-L q m) = let a = least-same m in omega arith
  sound (Derivation.top-R {Γ = Γ} q) = least-at-most Γ
  sound (Derivation.and-L₁ q m n D) = let a = least-same m in let b = least-same n in let d = sound D in omega arith
  sound (Derivation.and-L₂ q m n D) = let a = least-same m in let b = least-same n in let d = sound D in omega arith
  sound (Derivation.and-R q D E) = let d = sound D in let e = sound E in omega arith
  sound (Derivation.or-L q m n l D E) =
      let a = least-same m in
      let b = least-same n in
      let c = least-same l in
      let d = sound D in
      let e = sound E in
      omega arith
  sound (Derivation.or-R₁ q D) = let d = sound D in omega arith
  sound (Derivation.or-R₂ q D) = let d = sound D in omega arith
  sound (Derivation.implies-L {Γ = Γ} {B = B} {D = F} {C = C} q m n D E) =
      let a = least-same m in
      let b = least-same n in
      let e = sound E in
      let k : min (value ν F) (least ν Γ) ≤ value ν C = omega arith in
      let h = implied-under (least ν Γ) (value ν B) (value ν F) (value ν C) (sound D) k in
      omega arith
  sound (Derivation.implies-R {Γ = Γ} {B = B} {C = C} q m D) =
      let a = least-same m in
      let d = sound D in
      implied-over (least ν Γ) (value ν B) (value ν C) (least-at-most Γ) (omega arith)
  sound (Derivation.all-L {B = B} t q m h n D) =
      let a = least-same m in
      let b = least-same n in
      let c = value-of-instance (before t itself) B in
      let d = sound D in
      omega arith
  sound (Derivation.all-R {B = B} y q h e D) = let c = ap (value ν) e ∙ value-of-instance (before (Term.e y) itself) B in let d = sound D in omega arith
  sound (Derivation.some-L {B = B} y q m h n D) =
      let a = least-same m in
      let b = least-same n in
      let c = value-of-instance (before (Term.e y) itself) B in
      let d = sound D in
      omega arith
  sound (Derivation.some-R {B = B} t q h e D) = let c = ap (value ν) e ∙ value-of-instance (before t itself) B in let d = sound D in omega arith
