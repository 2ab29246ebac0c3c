-- Figure 1 of document 004, whole: Derivation Σ Γ C is a derivation of Σ : Γ → C, a constructor for each rule and no other, in the figure's order and beside each the rule as printed.
-- The first premise of each says that its conclusion is a sequent, all of whose formulas are over its signature (section 2): so every formula in a derivation is, a cut's and a
-- weakening's too (`is-sequent`, proofs/TypedLaws). The left side is a multiset: `Θ ≈ B ∷ Γ` reads "Θ is Γ, B", in any order. A left rule takes the lists of its conclusion and of its premises
-- up to order, and so does ⊃ R that of its premise; the other right rules have the same list in both. Nothing is lost by that: a derivation is one of the same sequent in any order, by the
-- same rules (`reordered`, proofs/OrderLaws). In ∀ R and ∃ R the right side of the premise is named D, and D is the instance.
-- It is a Type 1 because a derivation names signatures, and a signature says of each name whether it is a symbol, in types (Symbols, specs/Signature).
use Rattle.std.specs.Prelude.{ℕ, ◌≡◌, List, [], ◌∷◌, ◌++◌}
use Rattle.harrop.specs.Formula.{Term}
use Rattle.calculus.specs.Formula.{Formula}
use Rattle.calculus.specs.Substitution.{put}
use Rattle.calculus.specs.Multiset.{◌≈◌}
use Rattle.calculus.specs.Signature.{Signature, Fresh, declare, Has, IsSequent}

pub data Derivation {S : Type 0} : Signature S → List (Formula S) → Formula S → Type 1 where
  -- id: Σ : B → B
  id : {Σ : Signature S} {Θ : List (Formula S)} {B : Formula S} → IsSequent Σ Θ B → Θ ≈ (B ∷ []) → Derivation Σ Θ B
  -- cut: Σ : Γ → B and Σ : B, Δ → C give Σ : Γ, Δ → C
  cut : {Σ : Signature S} {Θ Γ Δ Λ : List (Formula S)} {B C : Formula S} → IsSequent Σ Θ C → Θ ≈ (Γ ++ Δ) → Λ ≈ (B ∷ Δ) → Derivation Σ Γ B → Derivation Σ Λ C → Derivation Σ Θ C
  -- contr L: Σ : Γ, B, B → C gives Σ : Γ, B → C
  contr-L : {Σ : Signature S} {Θ Γ Λ : List (Formula S)} {B C : Formula S} → IsSequent Σ Θ C → Θ ≈ (B ∷ Γ) → Λ ≈ (B ∷ B ∷ Γ) → Derivation Σ Λ C → Derivation Σ Θ C
  -- weak L: Σ : Γ → C gives Σ : Γ, B → C
  weak-L : {Σ : Signature S} {Θ Γ : List (Formula S)} {B C : Formula S} → IsSequent Σ Θ C → Θ ≈ (B ∷ Γ) → Derivation Σ Γ C → Derivation Σ Θ C
  -- ⊥ L: Σ : Γ, ⊥ → C
  bottom-L : {Σ : Signature S} {Θ Γ : List (Formula S)} {C : Formula S} → IsSequent Σ Θ C → Θ ≈ (Formula.bottom ∷ Γ) → Derivation Σ Θ C
  -- ⊤ R: Σ : Γ → ⊤
  top-R : {Σ : Signature S} {Γ : List (Formula S)} → IsSequent Σ Γ Formula.top → Derivation Σ Γ Formula.top
  -- ∧ L, i = 1: Σ : Γ, B₁ → C gives Σ : Γ, B₁ ∧ B₂ → C
  and-L₁ : {Σ : Signature S} {Θ Γ Λ : List (Formula S)} {B₁ B₂ C : Formula S} → IsSequent Σ Θ C → Θ ≈ (Formula.and B₁ B₂ ∷ Γ) → Λ ≈ (B₁ ∷ Γ) → Derivation Σ Λ C → Derivation Σ Θ C
  -- ∧ L, i = 2: Σ : Γ, B₂ → C gives Σ : Γ, B₁ ∧ B₂ → C
  and-L₂ : {Σ : Signature S} {Θ Γ Λ : List (Formula S)} {B₁ B₂ C : Formula S} → IsSequent Σ Θ C → Θ ≈ (Formula.and B₁ B₂ ∷ Γ) → Λ ≈ (B₂ ∷ Γ) → Derivation Σ Λ C → Derivation Σ Θ C
  -- ∧ R: Σ : Γ → B and Σ : Γ → C give Σ : Γ → B ∧ C
  and-R : {Σ : Signature S} {Γ : List (Formula S)} {B C : Formula S} → IsSequent Σ Γ (Formula.and B C) → Derivation Σ Γ B → Derivation Σ Γ C → Derivation Σ Γ (Formula.and B C)
  -- ∨ L: Σ : Γ, B → C and Σ : Γ, D → C give Σ : Γ, B ∨ D → C
  or-L : {Σ : Signature S} {Θ Γ Λ Π : List (Formula S)} {B D C : Formula S} → IsSequent Σ Θ C → Θ ≈ (Formula.or B D ∷ Γ) → Λ ≈ (B ∷ Γ) → Π ≈ (D ∷ Γ) → Derivation Σ Λ C → Derivation Σ Π C → Derivation Σ Θ C
  -- ∨ R, i = 1: Σ : Γ → B₁ gives Σ : Γ → B₁ ∨ B₂
  or-R₁ : {Σ : Signature S} {Γ : List (Formula S)} {B₁ B₂ : Formula S} → IsSequent Σ Γ (Formula.or B₁ B₂) → Derivation Σ Γ B₁ → Derivation Σ Γ (Formula.or B₁ B₂)
  -- ∨ R, i = 2: Σ : Γ → B₂ gives Σ : Γ → B₁ ∨ B₂
  or-R₂ : {Σ : Signature S} {Γ : List (Formula S)} {B₁ B₂ : Formula S} → IsSequent Σ Γ (Formula.or B₁ B₂) → Derivation Σ Γ B₂ → Derivation Σ Γ (Formula.or B₁ B₂)
  -- ⊃ L: Σ : Γ → B and Σ : Γ, D → C give Σ : Γ, B ⊃ D → C
  implies-L : {Σ : Signature S} {Θ Γ Λ : List (Formula S)} {B D C : Formula S} → IsSequent Σ Θ C → Θ ≈ (Formula.implies B D ∷ Γ) → Λ ≈ (D ∷ Γ) → Derivation Σ Γ B → Derivation Σ Λ C → Derivation Σ Θ C
  -- ⊃ R: Σ : Γ, B → C gives Σ : Γ → B ⊃ C
  implies-R : {Σ : Signature S} {Γ Λ : List (Formula S)} {B C : Formula S} → IsSequent Σ Γ (Formula.implies B C) → Λ ≈ (B ∷ Γ) → Derivation Σ Λ C → Derivation Σ Γ (Formula.implies B C)
  -- ∀ L: Σ ⊢ t : τ and Σ : Γ, B[t/x] → C give Σ : Γ, ∀τ x. B → C
  all-L : {Σ : Signature S} {Θ Γ Λ : List (Formula S)} {τ : S} {B C : Formula S} (t : Term) → IsSequent Σ Θ C → Θ ≈ (Formula.all τ B ∷ Γ) → Has Σ t τ → Λ ≈ (put t B ∷ Γ) → Derivation Σ Λ C → Derivation Σ Θ C
  -- ∀ R, y ∉ Σ: y : τ, Σ : Γ → B[y/x] gives Σ : Γ → ∀τ x. B
  all-R : {Σ : Signature S} {Γ : List (Formula S)} {τ : S} {B D : Formula S} (y : ℕ) → IsSequent Σ Γ (Formula.all τ B) → Fresh Σ y → D ≡ put (Term.e y) B → Derivation (declare y τ Σ) Γ D → Derivation Σ Γ (Formula.all τ B)
  -- ∃ L, y ∉ Σ: y : τ, Σ : Γ, B[y/x] → C gives Σ : Γ, ∃τ x. B → C
  some-L : {Σ : Signature S} {Θ Γ Λ : List (Formula S)} {τ : S} {B C : Formula S} (y : ℕ) → IsSequent Σ Θ C → Θ ≈ (Formula.some τ B ∷ Γ) → Fresh Σ y → Λ ≈ (put (Term.e y) B ∷ Γ) → Derivation (declare y τ Σ) Λ C → Derivation Σ Θ C
  -- ∃ R: Σ ⊢ t : τ and Σ : Γ → B[t/x] give Σ : Γ → ∃τ x. B
  some-R : {Σ : Signature S} {Γ : List (Formula S)} {τ : S} {B D : Formula S} (t : Term) → IsSequent Σ Γ (Formula.some τ B) → Has Σ t τ → D ≡ put t B → Derivation Σ Γ D → Derivation Σ Γ (Formula.some τ B)
