-- Cut-free, and Definition 2 of document 004: "a cut-free intuitionistic proof is a uniform proof if every sequent in the proof with a non-atomic succedent is the conclusion of a
-- right-introduction rule".
use Rattle.std.specs.Prelude.{List, [], ◌∷◌, ◌++◌}
use Rattle.calculus.specs.Formula.{Formula, Atomic}
use Rattle.calculus.specs.Signature.{Signature, Sequent}
use Rattle.calculus.specs.Derivation.{Derivation}

-- a property of derivations, by the last sequent and the rule it is the conclusion of
abbrev pub Property : Type 0 → Type 1
Property S = (Σ : Signature S) (Γ : List (Formula S)) (C : Formula S) → Derivation Σ Γ C → Type 0

-- the rules of Figure 1
pub data Rule : Type 0 where
  id : Rule
  cut : Rule
  contr-L : Rule
  weak-L : Rule
  bottom-L : Rule
  top-R : Rule
  and-L₁ : Rule
  and-L₂ : Rule
  and-R : Rule
  or-L : Rule
  or-R₁ : Rule
  or-R₂ : Rule
  implies-L : Rule
  implies-R : Rule
  all-L : Rule
  all-R : Rule
  some-L : Rule
  some-R : Rule

-- every rule but cut
abbrev pub NoCut : Rule → Type 0
NoCut Rule.id = Unit {0}
NoCut Rule.cut = ⊥
NoCut Rule.contr-L = Unit {0}
NoCut Rule.weak-L = Unit {0}
NoCut Rule.bottom-L = Unit {0}
NoCut Rule.top-R = Unit {0}
NoCut Rule.and-L₁ = Unit {0}
NoCut Rule.and-L₂ = Unit {0}
NoCut Rule.and-R = Unit {0}
NoCut Rule.or-L = Unit {0}
NoCut Rule.or-R₁ = Unit {0}
NoCut Rule.or-R₂ = Unit {0}
NoCut Rule.implies-L = Unit {0}
NoCut Rule.implies-R = Unit {0}
NoCut Rule.all-L = Unit {0}
NoCut Rule.all-R = Unit {0}
NoCut Rule.some-L = Unit {0}
NoCut Rule.some-R = Unit {0}

-- the right-introduction rules; ⊤ R is one
abbrev pub ByRight : Rule → Type 0
ByRight Rule.id = ⊥
ByRight Rule.cut = ⊥
ByRight Rule.contr-L = ⊥
ByRight Rule.weak-L = ⊥
ByRight Rule.bottom-L = ⊥
ByRight Rule.top-R = Unit {0}
ByRight Rule.and-L₁ = ⊥
ByRight Rule.and-L₂ = ⊥
ByRight Rule.and-R = Unit {0}
ByRight Rule.or-L = ⊥
ByRight Rule.or-R₁ = Unit {0}
ByRight Rule.or-R₂ = Unit {0}
ByRight Rule.implies-L = ⊥
ByRight Rule.implies-R = Unit {0}
ByRight Rule.all-L = ⊥
ByRight Rule.all-R = Unit {0}
ByRight Rule.some-L = ⊥
ByRight Rule.some-R = Unit {0}

module _ {S : Type 0} where
  -- P holds at every sequent in the derivation
  abbrev pub Everywhere : Property S → {Σ : Signature S} {Γ : List (Formula S)} {C : Formula S} → Derivation Σ Γ C → Type 0
  Everywhere P {Σ} {Γ} {C} (Derivation.id q m) = P Σ Γ C (Derivation.id q m)
  Everywhere P {Σ} {Γ} {C} (Derivation.cut q m n D E) = P Σ Γ C (Derivation.cut q m n D E) × Everywhere P D × Everywhere P E
  Everywhere P {Σ} {Γ} {C} (Derivation.contr-L q m n D) = P Σ Γ C (Derivation.contr-L q m n D) × Everywhere P D
  Everywhere P {Σ} {Γ} {C} (Derivation.weak-L q m D) = P Σ Γ C (Derivation.weak-L q m D) × Everywhere P D
  Everywhere P {Σ} {Γ} {C} (Derivation.bottom-L q m) = P Σ Γ C (Derivation.bottom-L q m)
  Everywhere P {Σ} {Γ} (Derivation.top-R q) = P Σ Γ Formula.top (Derivation.top-R q)
  Everywhere P {Σ} {Γ} {C} (Derivation.and-L₁ q m n D) = P Σ Γ C (Derivation.and-L₁ q m n D) × Everywhere P D
  Everywhere P {Σ} {Γ} {C} (Derivation.and-L₂ q m n D) = P Σ Γ C (Derivation.and-L₂ q m n D) × Everywhere P D
  Everywhere P {Σ} {Γ} (Derivation.and-R {B = B} {C = C} q D E) = P Σ Γ (Formula.and B C) (Derivation.and-R q D E) × Everywhere P D × Everywhere P E
  Everywhere P {Σ} {Γ} {C} (Derivation.or-L q m n l D E) = P Σ Γ C (Derivation.or-L q m n l D E) × Everywhere P D × Everywhere P E
  Everywhere P {Σ} {Γ} (Derivation.or-R₁ {B₁ = B} {B₂ = C} q D) = P Σ Γ (Formula.or B C) (Derivation.or-R₁ q D) × Everywhere P D
  Everywhere P {Σ} {Γ} (Derivation.or-R₂ {B₁ = B} {B₂ = C} q D) = P Σ Γ (Formula.or B C) (Derivation.or-R₂ q D) × Everywhere P D
  Everywhere P {Σ} {Γ} {C} (Derivation.implies-L q m n D E) = P Σ Γ C (Derivation.implies-L q m n D E) × Everywhere P D × Everywhere P E
  Everywhere P {Σ} {Γ} (Derivation.implies-R {B = B} {C = C} q m D) = P Σ Γ (Formula.implies B C) (Derivation.implies-R q m D) × Everywhere P D
  Everywhere P {Σ} {Γ} {C} (Derivation.all-L t q m h n D) = P Σ Γ C (Derivation.all-L t q m h n D) × Everywhere P D
  Everywhere P {Σ} {Γ} (Derivation.all-R {τ = s} {B = B} y q h e D) = P Σ Γ (Formula.all s B) (Derivation.all-R y q h e D) × Everywhere P D
  Everywhere P {Σ} {Γ} {C} (Derivation.some-L y q m h n D) = P Σ Γ C (Derivation.some-L y q m h n D) × Everywhere P D
  Everywhere P {Σ} {Γ} (Derivation.some-R {τ = s} {B = B} t q h e D) = P Σ Γ (Formula.some s B) (Derivation.some-R t q h e D) × Everywhere P D

  -- the rule that the last sequent is the conclusion of; what is said below is said of this
  abbrev pub last_rule : {Σ : Signature S} {Γ : List (Formula S)} {C : Formula S} → Derivation Σ Γ C → Rule
  last_rule (Derivation.id q m) = Rule.id
  last_rule (Derivation.cut q m n D E) = Rule.cut
  last_rule (Derivation.contr-L q m n D) = Rule.contr-L
  last_rule (Derivation.weak-L q m D) = Rule.weak-L
  last_rule (Derivation.bottom-L q m) = Rule.bottom-L
  last_rule (Derivation.top-R q) = Rule.top-R
  last_rule (Derivation.and-L₁ q m n D) = Rule.and-L₁
  last_rule (Derivation.and-L₂ q m n D) = Rule.and-L₂
  last_rule (Derivation.and-R q D E) = Rule.and-R
  last_rule (Derivation.or-L q m n l D E) = Rule.or-L
  last_rule (Derivation.or-R₁ q D) = Rule.or-R₁
  last_rule (Derivation.or-R₂ q D) = Rule.or-R₂
  last_rule (Derivation.implies-L q m n D E) = Rule.implies-L
  last_rule (Derivation.implies-R q m D) = Rule.implies-R
  last_rule (Derivation.all-L t q m h n D) = Rule.all-L
  last_rule (Derivation.all-R y q h e D) = Rule.all-R
  last_rule (Derivation.some-L y q m h n D) = Rule.some-L
  last_rule (Derivation.some-R t q h e D) = Rule.some-R

  -- for reading only: the rules of a derivation, the last first and each before those of its premises; no definition rests on it
  abbrev pub rules_in : {Σ : Signature S} {Γ : List (Formula S)} {C : Formula S} → Derivation Σ Γ C → List Rule
  rules_in (Derivation.id q m) = Rule.id ∷ []
  rules_in (Derivation.cut q m n D E) = Rule.cut ∷ (rules_in D ++ rules_in E)
  rules_in (Derivation.contr-L q m n D) = Rule.contr-L ∷ rules_in D
  rules_in (Derivation.weak-L q m D) = Rule.weak-L ∷ rules_in D
  rules_in (Derivation.bottom-L q m) = Rule.bottom-L ∷ []
  rules_in (Derivation.top-R q) = Rule.top-R ∷ []
  rules_in (Derivation.and-L₁ q m n D) = Rule.and-L₁ ∷ rules_in D
  rules_in (Derivation.and-L₂ q m n D) = Rule.and-L₂ ∷ rules_in D
  rules_in (Derivation.and-R q D E) = Rule.and-R ∷ (rules_in D ++ rules_in E)
  rules_in (Derivation.or-L q m n l D E) = Rule.or-L ∷ (rules_in D ++ rules_in E)
  rules_in (Derivation.or-R₁ q D) = Rule.or-R₁ ∷ rules_in D
  rules_in (Derivation.or-R₂ q D) = Rule.or-R₂ ∷ rules_in D
  rules_in (Derivation.implies-L q m n D E) = Rule.implies-L ∷ (rules_in D ++ rules_in E)
  rules_in (Derivation.implies-R q m D) = Rule.implies-R ∷ rules_in D
  rules_in (Derivation.all-L t q m h n D) = Rule.all-L ∷ rules_in D
  rules_in (Derivation.all-R y q h e D) = Rule.all-R ∷ rules_in D
  rules_in (Derivation.some-L y q m h n D) = Rule.some-L ∷ rules_in D
  rules_in (Derivation.some-R t q h e D) = Rule.some-R ∷ rules_in D

  -- no rule in it is cut
  abbrev pub CutFree : {Σ : Signature S} {Γ : List (Formula S)} {C : Formula S} → Derivation Σ Γ C → Type 0
  CutFree d = Everywhere (λ Σ Γ C e. NoCut (last_rule e)) d

  -- every sequent with a right side that is not atomic is the conclusion of a right-introduction rule
  abbrev pub RightFirst : {Σ : Signature S} {Γ : List (Formula S)} {C : Formula S} → Derivation Σ Γ C → Type 0
  RightFirst d = Everywhere (λ Σ Γ C e. ¬ (Atomic C) → ByRight (last_rule e)) d

  -- Definition 2
  pub record Uniform {Σ : Signature S} {Γ : List (Formula S)} {C : Formula S} (d : Derivation Σ Γ C) : Type 0 where
    pub cut-free : CutFree d
    pub right-first : RightFirst d

  -- Σ : Γ → C has a uniform proof
  pub record UniformProof (Σ : Signature S) (Γ : List (Formula S)) (C : Formula S) : Type 1 where
    pub tree : Derivation Σ Γ C
    pub uniform : Uniform tree

  abbrev pub HasUniformProof : Sequent S → Type 1
  HasUniformProof s = UniformProof s.signature s.left s.right
