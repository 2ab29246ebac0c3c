-- Of a signature's parameters only membership matters, not their order or repetition: a derivation is one over any list with the same members, by the same rules (specs/Signature).
use Prim.Native.Nat.{ℕ}
use mathlib.Core.List.{List, [], ◌∷◌}
use Rattle.calculus.specs.Formula.{Formula, Atomic}
use Rattle.calculus.specs.Signature.{Signature}
use Rattle.calculus.specs.Derivation.{Derivation}
use Rattle.calculus.specs.Uniform.{Rule, NoCut, ByRight, UniformProof}
use Rattle.calculus.proofs.SortLaws.{Part, term-still, still-sequent, part-grown}
use Rattle.calculus.proofs.OrderLaws.{Throughout}

module _ {S : Type 0} where
  -- Σ with another list of parameters
  abbrev pub listing : Signature S → List (ℕ × S) → Signature S
  listing Σ ps = record { symbols = Σ.symbols; parameters = ps }

  abbrev pub relisted : {Σ : Signature S} {Γ : List (Formula S)} {C : Formula S} (d : Derivation Σ Γ C) (ps : List (ℕ × S)) → Part Σ.parameters ps → Part ps Σ.parameters → Derivation (listing Σ ps) Γ C
  relisted {Σ} (Derivation.id q m) ps i j = Derivation.id (still-sequent Σ.symbols Σ.parameters ps i q) m
  relisted {Σ} (Derivation.cut q m n D E) ps i j = Derivation.cut (still-sequent Σ.symbols Σ.parameters ps i q) m n (relisted D ps i j) (relisted E ps i j)
  relisted {Σ} (Derivation.contr-L q m n D) ps i j = Derivation.contr-L (still-sequent Σ.symbols Σ.parameters ps i q) m n (relisted D ps i j)
  relisted {Σ} (Derivation.weak-L q m D) ps i j = Derivation.weak-L (still-sequent Σ.symbols Σ.parameters ps i q) m (relisted D ps i j)
  relisted {Σ} (Derivation.bottom-L q m) ps i j = Derivation.bottom-L (still-sequent Σ.symbols Σ.parameters ps i q) m
  relisted {Σ} (Derivation.top-R q) ps i j = Derivation.top-R (still-sequent Σ.symbols Σ.parameters ps i q)
  relisted {Σ} (Derivation.and-L₁ q m n D) ps i j = Derivation.and-L₁ (still-sequent Σ.symbols Σ.parameters ps i q) m n (relisted D ps i j)
  relisted {Σ} (Derivation.and-L₂ q m n D) ps i j = Derivation.and-L₂ (still-sequent Σ.symbols Σ.parameters ps i q) m n (relisted D ps i j)
  relisted {Σ} (Derivation.and-R q D E) ps i j = Derivation.and-R (still-sequent Σ.symbols Σ.parameters ps i q) (relisted D ps i j) (relisted E ps i j)
  relisted {Σ} (Derivation.or-L q m n l D E) ps i j = Derivation.or-L (still-sequent Σ.symbols Σ.parameters ps i q) m n l (relisted D ps i j) (relisted E ps i j)
  relisted {Σ} (Derivation.or-R₁ q D) ps i j = Derivation.or-R₁ (still-sequent Σ.symbols Σ.parameters ps i q) (relisted D ps i j)
  relisted {Σ} (Derivation.or-R₂ q D) ps i j = Derivation.or-R₂ (still-sequent Σ.symbols Σ.parameters ps i q) (relisted D ps i j)
  relisted {Σ} (Derivation.implies-L q m n D E) ps i j = Derivation.implies-L (still-sequent Σ.symbols Σ.parameters ps i q) m n (relisted D ps i j) (relisted E ps i j)
  relisted {Σ} (Derivation.implies-R q m D) ps i j = Derivation.implies-R (still-sequent Σ.symbols Σ.parameters ps i q) m (relisted D ps i j)
  relisted {Σ} (Derivation.all-L {τ = s} t q m h n D) ps i j =
      Derivation.all-L t (still-sequent Σ.symbols Σ.parameters ps i q) m (term-still Σ.symbols Σ.parameters ps i [] t s h) n (relisted D ps i j)
  relisted {Σ} (Derivation.all-R {τ = s} y q h e D) ps i j =
      Derivation.all-R y (still-sequent Σ.symbols Σ.parameters ps i q) (λ r m. h r (j (y, r) m)) e
      (relisted D ((y, s) ∷ ps) (part-grown Σ.symbols Σ.parameters ps i (y, s)) (part-grown Σ.symbols ps Σ.parameters j (y, s)))
  relisted {Σ} (Derivation.some-L {τ = s} y q m h n D) ps i j =
      Derivation.some-L y (still-sequent Σ.symbols Σ.parameters ps i q) m (λ r k. h r (j (y, r) k)) n
      (relisted D ((y, s) ∷ ps) (part-grown Σ.symbols Σ.parameters ps i (y, s)) (part-grown Σ.symbols ps Σ.parameters j (y, s)))
  relisted {Σ} (Derivation.some-R {τ = s} t q h e D) ps i j =
      Derivation.some-R t (still-sequent Σ.symbols Σ.parameters ps i q) (term-still Σ.symbols Σ.parameters ps i [] t s h) e (relisted D ps i j)

  -- what holds of the right sides and the rules at every sequent still holds
  pub throughout-relisted : (R : Formula S → Rule → Type 0) {Σ : Signature S} {Γ : List (Formula S)} {C : Formula S} (d : Derivation Σ Γ C) (ps : List (ℕ × S)) (i : Part Σ.parameters ps) (j : Part ps Σ.parameters) → Throughout R d → Throughout R (relisted d ps i j)
  throughout-relisted R (Derivation.id q m) ps i j w = w
  throughout-relisted R (Derivation.cut q m n D E) ps i j w = (w.0, throughout-relisted R D ps i j w.1, throughout-relisted R E ps i j w.2)
  throughout-relisted R (Derivation.contr-L q m n D) ps i j w = (w.0, throughout-relisted R D ps i j w.1)
  throughout-relisted R (Derivation.weak-L q m D) ps i j w = (w.0, throughout-relisted R D ps i j w.1)
  throughout-relisted R (Derivation.bottom-L q m) ps i j w = w
  throughout-relisted R (Derivation.top-R q) ps i j w = w
  throughout-relisted R (Derivation.and-L₁ q m n D) ps i j w = (w.0, throughout-relisted R D ps i j w.1)
  throughout-relisted R (Derivation.and-L₂ q m n D) ps i j w = (w.0, throughout-relisted R D ps i j w.1)
  throughout-relisted R (Derivation.and-R q D E) ps i j w = (w.0, throughout-relisted R D ps i j w.1, throughout-relisted R E ps i j w.2)
  throughout-relisted R (Derivation.or-L q m n l D E) ps i j w = (w.0, throughout-relisted R D ps i j w.1, throughout-relisted R E ps i j w.2)
  throughout-relisted R (Derivation.or-R₁ q D) ps i j w = (w.0, throughout-relisted R D ps i j w.1)
  throughout-relisted R (Derivation.or-R₂ q D) ps i j w = (w.0, throughout-relisted R D ps i j w.1)
  throughout-relisted R (Derivation.implies-L q m n D E) ps i j w = (w.0, throughout-relisted R D ps i j w.1, throughout-relisted R E ps i j w.2)
  throughout-relisted R (Derivation.implies-R q m D) ps i j w = (w.0, throughout-relisted R D ps i j w.1)
  throughout-relisted R (Derivation.all-L t q m h n D) ps i j w = (w.0, throughout-relisted R D ps i j w.1)
  throughout-relisted R (Derivation.all-R y q h e D) ps i j w = (w.0, throughout-relisted R D _ _ _ w.1)
  throughout-relisted R (Derivation.some-L y q m h n D) ps i j w = (w.0, throughout-relisted R D _ _ _ w.1)
  throughout-relisted R (Derivation.some-R t q h e D) ps i j w = (w.0, throughout-relisted R D ps i j w.1)

  pub in-any-listing : {Σ : Signature S} {Γ : List (Formula S)} {C : Formula S} (ps : List (ℕ × S)) → Part Σ.parameters ps → Part ps Σ.parameters → UniformProof Σ Γ C → UniformProof (listing Σ ps) Γ C
  in-any-listing ps i j u = record {
    tree = relisted u.tree ps i j;
    uniform = record {
      cut-free = throughout-relisted (λ C r. NoCut r) u.tree ps i j u.uniform.cut-free;
      right-first = throughout-relisted (λ C r. ¬ (Atomic C) → ByRight r) u.tree ps i j u.uniform.right-first;
    };
  }
