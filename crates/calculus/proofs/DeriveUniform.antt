-- The derivation of a proof (proofs/Derive) has no cut, and every sequent in it with a right side that is not atomic is the conclusion of a right-introduction rule (Definition 2).
use mathlib.Core.Path.{◌≡◌}
use mathlib.Core.List.{List, [], ◌∷◌}
use Rattle.harrop.specs.Formula.{Goal, Clause, Step, Strip}
use Rattle.harrop.specs.Bindings.{Bindings}
use Rattle.harrop.specs.Place.{Candidates, Hand, Place, End}
use Rattle.harrop.specs.Proves.{Reaches, Proves, ProvesAt}
use Rattle.calculus.specs.Formula.{Formula, Atomic}
use Rattle.calculus.specs.Signature.{Symbols, Signature, IsSequent, WellTyped}
use Rattle.calculus.specs.Derivation.{Derivation}
use Rattle.calculus.specs.Uniform.{Rule, NoCut, ByRight, HasUniformProof}
use Rattle.calculus.specs.Translation.{clause_formula, signature_at, standing, left_of, right_of, sequent_at}
use Rattle.calculus.specs.Apt.{Apt}
use Rattle.calculus.proofs.OrderLaws.{Throughout}
use Rattle.calculus.proofs.Derive.{closing, ending, along, tree}

-- R holds of a right side and a rule wherever the rule is a right one, and of an atom and any rule but cut
record Allows {S : Type 0} (R : Formula S → Rule → Type 0) : Type 0 where
  right : (C : Formula S) (r : Rule) → ByRight r → R C r
  atomic : (C : Formula S) (r : Rule) → Atomic C → NoCut r → R C r

module _ {Q : Type 0} (Y : Symbols Q) (cs : Candidates Q) (apt : Apt Y cs) (R : Formula Q → Rule → Type 0) (w : Allows R) where
  closing-throughout : (Σ : Signature Q) (Γ : List (Formula Q)) (A' A : Formula Q) (e : A' ≡ A) (q : IsSequent Σ (A' ∷ Γ) A) → Atomic A → Throughout R (closing Σ Γ A' A e q)
  closing-throughout Σ [] A' A e q a = w.atomic A Rule.id a tt
  closing-throughout Σ (B ∷ Γ) A' A e q a = (w.atomic A Rule.weak-L a tt, closing-throughout Σ Γ A' A e (record { left = (q.left.0, q.left.1.1); right = q.right }) a)

  along-throughout : {o : List Q} {d : Clause Q} {bs : Bindings} {path : List Step} {x : End Q} (Γ : List (Formula Q)) (C : Formula Q) (r : Reaches cs o d bs path x) (q : IsSequent (signature_at Y o) (standing cs.terms bs (clause_formula d) ∷ Γ) C) (k : IsSequent (signature_at Y o) (ending cs.terms x ∷ Γ) C → Derivation (signature_at Y o) (ending cs.terms x ∷ Γ) C) → Atomic C → ((u : IsSequent (signature_at Y o) (ending cs.terms x ∷ Γ) C) → Throughout R (k u)) → Throughout R (along Y cs apt Γ C r q k)
  along-throughout Γ C Reaches.at-atom q k a h = h q
  along-throughout Γ C Reaches.at-imp q k a h = h q
  along-throughout Γ C (Reaches.by_number m r) q k a h = (w.atomic C Rule.all-L a tt, along-throughout Γ C r _ k a h)
  along-throughout Γ C (Reaches.by-l r) q k a h = (w.atomic C Rule.and-L₁ a tt, along-throughout Γ C r _ k a h)
  along-throughout Γ C (Reaches.by-r r) q k a h = (w.atomic C Rule.and-L₂ a tt, along-throughout Γ C r _ k a h)

  tree-throughout : {o : List Q} {c : Hand Q} {bs : Bindings} {g : Goal Q} {P : Strip} (p : Proves cs o c bs g P) (q : IsSequent (signature_at Y o) (left_of cs.terms c) (right_of cs.terms bs g)) → Throughout R (tree Y cs apt p q)
  tree-throughout Proves.by-top q = w.right _ Rule.top-R tt
  tree-throughout (Proves.by_and p r) q = (w.right _ Rule.and-R tt, tree-throughout p _, tree-throughout r _)
  tree-throughout (Proves.by_left p) q = (w.right _ Rule.or-R₁ tt, tree-throughout p _)
  tree-throughout (Proves.by_right p) q = (w.right _ Rule.or-R₂ tt, tree-throughout p _)
  tree-throughout (Proves.by-some m p) q = (w.right _ Rule.some-R tt, tree-throughout p _)
  tree-throughout (Proves.by_all p) q = (w.right _ Rule.all-R tt, tree-throughout p _)
  tree-throughout (Proves.by-imp p) q = (w.right _ Rule.implies-R tt, tree-throughout p _)
  tree-throughout (Proves.by-use₀ {c = c} {bs = bs} {a = a} e r s) q =
      (w.atomic _ Rule.contr-L tt tt, along-throughout (left_of cs.terms c) (right_of cs.terms bs (Goal.atom a)) r _ _ tt (λ u. closing-throughout _ (left_of cs.terms c) _ _ _ u tt))
  tree-throughout (Proves.by-use₁ {c = c} {bs = bs} {a = a} e r s p) q =
      (w.atomic _ Rule.contr-L tt tt, along-throughout (left_of cs.terms c) (right_of cs.terms bs (Goal.atom a)) r _ _ tt (λ u. (w.atomic _ Rule.implies-L tt tt, tree-throughout p _, closing-throughout _ (left_of cs.terms c) _ _ _ _ tt)))

module _ {Q : Type 0} where
  right-no-cut : (C : Formula Q) (r : Rule) → ByRight r → NoCut r
  right-no-cut C Rule.id b = tt
  right-no-cut C Rule.cut b = b
  right-no-cut C Rule.contr-L b = tt
  right-no-cut C Rule.weak-L b = tt
  right-no-cut C Rule.bottom-L b = tt
  right-no-cut C Rule.top-R b = tt
  right-no-cut C Rule.and-L₁ b = tt
  right-no-cut C Rule.and-L₂ b = tt
  right-no-cut C Rule.and-R b = tt
  right-no-cut C Rule.or-L b = tt
  right-no-cut C Rule.or-R₁ b = tt
  right-no-cut C Rule.or-R₂ b = tt
  right-no-cut C Rule.implies-L b = tt
  right-no-cut C Rule.implies-R b = tt
  right-no-cut C Rule.all-L b = tt
  right-no-cut C Rule.all-R b = tt
  right-no-cut C Rule.some-L b = tt
  right-no-cut C Rule.some-R b = tt

  no_cut : Allows {S = Q} (λ C r. NoCut r)
  no_cut = record { right = right-no-cut; atomic = λ C r a n. n }

  right-first : Allows {S = Q} (λ C r. ¬ (Atomic C) → ByRight r)
  right-first = record { right = λ C r b n. b; atomic = λ C r a b n. absurd (n a) }

  -- the place's sequent has a uniform proof
  pub derived : (Y : Symbols Q) (cs : Candidates Q) → Apt Y cs → (pl : Place Q) (P : Strip) → ProvesAt cs pl P → WellTyped (sequent_at cs.terms Y pl) → HasUniformProof (sequent_at cs.terms Y pl)
  derived Y cs apt pl P p q = record {
    tree = tree Y cs apt p q;
    uniform = record {
      cut-free = tree-throughout Y cs apt (λ C r. NoCut r) no_cut p q;
      right-first = tree-throughout Y cs apt (λ C r. ¬ (Atomic C) → ByRight r) right-first p q;
    };
  }
