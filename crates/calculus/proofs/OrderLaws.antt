-- The order of the formulas on the left does not matter: a derivation is one of the same sequent in any order, by the same rules (specs/Multiset, specs/Derivation).
use mathlib.Core.Path.{refl, subst}
use mathlib.Core.List.Permᴰ
use mathlib.Core.List.{List}
use Rattle.basics.specs.Each.{Each}
use Rattle.calculus.specs.Formula.{Formula, Atomic}
use Rattle.calculus.specs.Multiset.{◌≈◌}
use Rattle.calculus.specs.Signature.{Signature, Over, IsSequent}
use Rattle.calculus.specs.Derivation.{Derivation}
use Rattle.calculus.specs.Uniform.{Rule, NoCut, ByRight, Everywhere, last_rule, UniformProof}

pub all-reordered : {A : Type 0} (P : A → Type 0) {Γ Δ : List A} → Γ ≈ Δ → Each P Γ → Each P Δ
all-reordered P Permᴰ.nil h = tt
all-reordered P (Permᴰ.cons e d) h = (subst P e h.0, all-reordered P d h.1)
all-reordered P (Permᴰ.swap e₁ e₂) h = (subst P e₂ h.1.0, (subst P e₁ h.0, h.1.1))
all-reordered P (Permᴰ.trans d₁ d₂) h = all-reordered P d₂ (all-reordered P d₁ h)

module _ {S : Type 0} where
  pub sequent-reordered : {Σ : Signature S} {Γ Δ : List (Formula S)} {C : Formula S} → Γ ≈ Δ → IsSequent Σ Γ C → IsSequent Σ Δ C
  sequent-reordered {Σ} w q = record { left = all-reordered (Over Σ) w q.left; right = q.right }

  pub back : {Γ Δ Θ : List (Formula S)} → Γ ≈ Δ → Γ ≈ Θ → Δ ≈ Θ
  back w m = Permᴰ.trans (Permᴰ.symm w) m

  abbrev pub reordered : {Σ : Signature S} {Γ Δ : List (Formula S)} {C : Formula S} → Γ ≈ Δ → Derivation Σ Γ C → Derivation Σ Δ C
  reordered w (Derivation.id q m) = Derivation.id (sequent-reordered w q) (back w m)
  reordered w (Derivation.cut q m n D E) = Derivation.cut (sequent-reordered w q) (back w m) n D E
  reordered w (Derivation.contr-L q m n D) = Derivation.contr-L (sequent-reordered w q) (back w m) n D
  reordered w (Derivation.weak-L q m D) = Derivation.weak-L (sequent-reordered w q) (back w m) D
  reordered w (Derivation.bottom-L q m) = Derivation.bottom-L (sequent-reordered w q) (back w m)
  reordered w (Derivation.top-R q) = Derivation.top-R (sequent-reordered w q)
  reordered w (Derivation.and-L₁ q m n D) = Derivation.and-L₁ (sequent-reordered w q) (back w m) n D
  reordered w (Derivation.and-L₂ q m n D) = Derivation.and-L₂ (sequent-reordered w q) (back w m) n D
  reordered w (Derivation.and-R q D E) = Derivation.and-R (sequent-reordered w q) (reordered w D) (reordered w E)
  reordered w (Derivation.or-L q m n l D E) = Derivation.or-L (sequent-reordered w q) (back w m) n l D E
  reordered w (Derivation.or-R₁ q D) = Derivation.or-R₁ (sequent-reordered w q) (reordered w D)
  reordered w (Derivation.or-R₂ q D) = Derivation.or-R₂ (sequent-reordered w q) (reordered w D)
  reordered w (Derivation.implies-L q m n D E) = Derivation.implies-L (sequent-reordered w q) (back w m) n D E
  reordered w (Derivation.implies-R q m D) = Derivation.implies-R (sequent-reordered w q) (Permᴰ.trans m (Permᴰ.cons refl w)) D
  reordered w (Derivation.all-L t q m h n D) = Derivation.all-L t (sequent-reordered w q) (back w m) h n D
  reordered w (Derivation.all-R y q h e D) = Derivation.all-R y (sequent-reordered w q) h e (reordered w D)
  reordered w (Derivation.some-L y q m h n D) = Derivation.some-L y (sequent-reordered w q) (back w m) h n D
  reordered w (Derivation.some-R t q h e D) = Derivation.some-R t (sequent-reordered w q) h e (reordered w D)

  -- what holds of the right sides and the rules at every sequent still holds
  module _ (R : Formula S → Rule → Type 0) where
    abbrev pub Throughout : {Σ : Signature S} {Γ : List (Formula S)} {C : Formula S} → Derivation Σ Γ C → Type 0
    Throughout d = Everywhere (λ Σ Γ C e. R C (last_rule e)) d

    pub throughout-reordered : {Σ : Signature S} {Γ Δ : List (Formula S)} {C : Formula S} (w : Γ ≈ Δ) (d : Derivation Σ Γ C) → Throughout d → Throughout (reordered w d)
    throughout-reordered w (Derivation.id q m) h = h
    throughout-reordered w (Derivation.cut q m n D E) h = h
    throughout-reordered w (Derivation.contr-L q m n D) h = h
    throughout-reordered w (Derivation.weak-L q m D) h = h
    throughout-reordered w (Derivation.bottom-L q m) h = h
    throughout-reordered w (Derivation.top-R q) h = h
    throughout-reordered w (Derivation.and-L₁ q m n D) h = h
    throughout-reordered w (Derivation.and-L₂ q m n D) h = h
    throughout-reordered w (Derivation.and-R q D E) h = (h.0, throughout-reordered w D h.1, throughout-reordered w E h.2)
    throughout-reordered w (Derivation.or-L q m n l D E) h = h
    throughout-reordered w (Derivation.or-R₁ q D) h = (h.0, throughout-reordered w D h.1)
    throughout-reordered w (Derivation.or-R₂ q D) h = (h.0, throughout-reordered w D h.1)
    throughout-reordered w (Derivation.implies-L q m n D E) h = h
    throughout-reordered w (Derivation.implies-R q m D) h = h
    throughout-reordered w (Derivation.all-L t q m g n D) h = h
    throughout-reordered w (Derivation.all-R y q g e D) h = (h.0, throughout-reordered w D h.1)
    throughout-reordered w (Derivation.some-L y q m g n D) h = h
    throughout-reordered w (Derivation.some-R t q g e D) h = (h.0, throughout-reordered w D h.1)

  pub in-any-order : {Σ : Signature S} {Γ Δ : List (Formula S)} {C : Formula S} → Γ ≈ Δ → UniformProof Σ Γ C → UniformProof Σ Δ C
  in-any-order w u = record {
    tree = reordered w u.tree;
    uniform = record {
      cut-free = throughout-reordered (λ C r. NoCut r) w u.tree u.uniform.cut-free;
      right-first = throughout-reordered (λ C r. ¬ (Atomic C) → ByRight r) w u.tree u.uniform.right-first;
    };
  }
