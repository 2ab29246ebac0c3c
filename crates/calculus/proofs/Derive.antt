-- Every proof at a place is a uniform derivation of the place's sequent (document 01, demand 3; document 004, Figure 1 and Definition 2), over any sorts and any symbols.
-- At a `use` the clause is contracted, the left rules follow the path, the implication comes last, and the clauses at hand are weakened away in their order just before id.
use Prim.Native.Nat.{ℕ, zero, suc, ◌≤◌}
use mathlib.Core.Path.{◌≡◌, refl, sym, ◌∙◌, ap, subst}
use mathlib.Core.List.Permᴰ
use mathlib.Core.List.{List, [], ◌∷◌, ◌++◌, Memᴰ}
use mathlib.Core.Option.{some, some-injective}
use native.Mathlib.Omega.{arith}
use lib.ListN.{length, get_elem?}
use Rattle.basics.specs.Choice.{nope}
use Rattle.harrop.specs.declared.Binding.TheVariants.{Candidate, Parameter}
use Rattle.harrop.specs.Formula.{Term, Atom, Goal, Clause, Step, Strip}
use Rattle.harrop.specs.Bindings.{Bindings, meant, value_of, replaced_atom}
use Rattle.harrop.specs.Place.{Candidates, AtHand, Hand, End}
use Rattle.harrop.specs.Proves.{May, Reaches, Proves}
use Rattle.calculus.specs.Formula.{Formula}
use Rattle.calculus.specs.Substitution.{in_formula, under}
use Rattle.calculus.specs.Multiset.{◌≈◌}
use Rattle.calculus.specs.Signature.{Symbols, Signature, Fresh, FormulaOver, Over, IsSequent}
use Rattle.calculus.specs.Derivation.{Derivation}
use Rattle.calculus.specs.Translation.{goal_formula, clause_formula, parameters_of, signature_at, standing, standing_clause, left_of, right_of}
use Rattle.calculus.specs.Apt.{Apt}
use Rattle.calculus.proofs.SubstitutionLaws.{bound, replaced-atom-is}
use Rattle.calculus.proofs.SortLaws.{put-over, still-over, all-still-over}
use Rattle.calculus.proofs.OrderLaws.{all-reordered}

module _ {Q : Type 0} where
  -- the parameters open at a place are numbered from 1 to p
  open-at-most : (o : List Q) (k : ℕ) (q : Q) → Memᴰ (k, q) (parameters_of o) → k ≤ length o
  open-at-most (p ∷ o) k q (Memᴰ.head e) = let h = ap (λ (x : ℕ × Q). x.0) e in omega arith
  open-at-most (p ∷ o) k q (Memᴰ.tail m) = let h = open-at-most o k q m in omega arith
  open-at-most [] k q x' = elim x' [ ]

  pub next-fresh : (Y : Symbols Q) (o : List Q) → Fresh (signature_at Y o) (suc (length o))
  next-fresh Y o q m = let h = open-at-most o (suc (length o)) q m in omega arith

  -- A is an atom and the left side's A' is the same: the other formulas are weakened away in their order, then id
  abbrev pub closing : (Σ : Signature Q) (Γ : List (Formula Q)) (A' A : Formula Q) → A' ≡ A → IsSequent Σ (A' ∷ Γ) A → Derivation Σ (A' ∷ Γ) A
  closing Σ [] A' A e q = Derivation.id q (Permᴰ.cons e Permᴰ.nil)
  closing Σ (B ∷ Γ) A' A e q =
      Derivation.weak-L q (Permᴰ.swap refl refl) (closing Σ Γ A' A e (record { left = (q.left.0, q.left.1.1); right = q.right }))

module _ {Q : Type 0} (terms : List Term) where
  -- what a path ends at, as a formula
  abbrev pub ending : End Q → Formula Q
  ending (End.at_atom a bs) = standing terms bs (Formula.atom a)
  ending (End.at_imp g a bs) = standing terms bs (Formula.implies (goal_formula g) (Formula.atom a))

  -- clause k among the others
  pub at-hand : (c : Hand Q) (k : ℕ) (d : AtHand Q) → get_elem? c k ≡ some d → (Γ : List (Formula Q)) × (left_of terms c ≈ (standing_clause terms d ∷ Γ))
  at-hand [] k d h = nope h
  at-hand (x ∷ c) zero d h = (left_of terms c, Permᴰ.cons (ap (standing_clause terms) (some-injective x d h)) (Permᴰ.refl (left_of terms c)))
  at-hand (x ∷ c) (suc k) d h =
      let (Γ, m) = at-hand c k d h in
      (standing_clause terms x ∷ Γ, Permᴰ.trans (Permᴰ.cons refl m) (Permᴰ.swap refl refl))

  -- a supposed clause joins the end
  pub joined : (c : Hand Q) (d : AtHand Q) → left_of terms (c ++ (d ∷ [])) ≈ (standing_clause terms d ∷ left_of terms c)
  joined [] d = Permᴰ.refl (standing_clause terms d ∷ [])
  joined (x ∷ c) d = Permᴰ.trans (Permᴰ.cons refl (joined c d)) (Permᴰ.swap refl refl)

  -- the two atoms of a `use` are one formula
  pub one-atom : (bs bs₁ : Bindings) (a b : Atom) → replaced_atom terms bs₁ b ≡ replaced_atom terms bs a → standing {Q = Q} terms bs₁ (Formula.atom b) ≡ standing {Q = Q} terms bs (Formula.atom a)
  one-atom bs bs₁ a b e = ap Formula.atom (sym (replaced-atom-is terms bs₁ b) ∙ e ∙ replaced-atom-is terms bs a)

module _ {Q : Type 0} (Y : Symbols Q) (cs : Candidates Q) (apt : Apt Y cs) where
  -- an instance by a candidate that may be used is over the signature
  pub instance-over : (o : List Q) (q : Q) (i : ℕ) (bs : Bindings) (B : Formula Q) → May cs o q i → FormulaOver (signature_at Y o) (q ∷ []) (in_formula (under (value_of cs.terms bs)) B) → Over (signature_at Y o) (standing cs.terms (Candidate i ∷ bs) B)
  instance-over o q i bs B m h =
      subst (Over (signature_at Y o)) (bound cs.terms (Candidate i) bs B)
      (put-over (signature_at Y o) (meant cs.terms (Candidate i)) q (in_formula (under (value_of cs.terms bs)) B) (apt o q i m) h)

  -- an instance by the next parameter is over the signature with it
  pub next-over : (o : List Q) (q : Q) (bs : Bindings) (B : Formula Q) → FormulaOver (signature_at Y o) (q ∷ []) (in_formula (under (value_of cs.terms bs)) B) → Over (signature_at Y (q ∷ o)) (standing cs.terms (Parameter (suc (length o)) ∷ bs) B)
  next-over o q bs B h =
      subst (Over (signature_at Y (q ∷ o))) (bound cs.terms (Parameter (suc (length o))) bs B)
      (put-over (signature_at Y (q ∷ o)) (Term.e (suc (length o))) q (in_formula (under (value_of cs.terms bs)) B) (Memᴰ.head refl)
      (still-over Y (parameters_of o) (parameters_of (q ∷ o)) (λ x m. Memᴰ.tail m) (q ∷ []) (in_formula (under (value_of cs.terms bs)) B) h))

  -- the left rules that follow a path, up to where it ends
  abbrev pub along : {o : List Q} {d : Clause Q} {bs : Bindings} {path : List Step} {x : End Q} (Γ : List (Formula Q)) (C : Formula Q) → Reaches cs o d bs path x → IsSequent (signature_at Y o) (standing cs.terms bs (clause_formula d) ∷ Γ) C → (IsSequent (signature_at Y o) (ending cs.terms x ∷ Γ) C → Derivation (signature_at Y o) (ending cs.terms x ∷ Γ) C) → Derivation (signature_at Y o) (standing cs.terms bs (clause_formula d) ∷ Γ) C
  along Γ C Reaches.at-atom q k = k q
  along Γ C Reaches.at-imp q k = k q
  along {o} Γ C (Reaches.by_number {q = s} {d = d} {bs = bs} {i = i} m r) q k =
      Derivation.all-L (meant cs.terms (Candidate i)) q (Permᴰ.refl (standing cs.terms bs (Formula.all s (clause_formula d)) ∷ Γ)) (apt o s i m)
      (Permᴰ.cons (sym (bound cs.terms (Candidate i) bs (clause_formula d))) (Permᴰ.refl Γ))
      (along Γ C r (record { left = (instance-over o s i bs (clause_formula d) m q.left.0, q.left.1); right = q.right }) k)
  along Γ C (Reaches.by-l {c = c} {d = d} {bs = bs} r) q k =
      Derivation.and-L₁ q (Permᴰ.refl (standing cs.terms bs (Formula.and (clause_formula c) (clause_formula d)) ∷ Γ)) (Permᴰ.refl (standing cs.terms bs (clause_formula c) ∷ Γ))
      (along Γ C r (record { left = (q.left.0.0, q.left.1); right = q.right }) k)
  along Γ C (Reaches.by-r {c = c} {d = d} {bs = bs} r) q k =
      Derivation.and-L₂ q (Permᴰ.refl (standing cs.terms bs (Formula.and (clause_formula c) (clause_formula d)) ∷ Γ)) (Permᴰ.refl (standing cs.terms bs (clause_formula d) ∷ Γ))
      (along Γ C r (record { left = (q.left.0.1, q.left.1); right = q.right }) k)

  -- clause k, contracted
  pub contracted : (o : List Q) (c : Hand Q) (k : ℕ) (d : AtHand Q) (C : Formula Q) → get_elem? c k ≡ some d → IsSequent (signature_at Y o) (left_of cs.terms c) C → IsSequent (signature_at Y o) (standing_clause cs.terms d ∷ left_of cs.terms c) C
  contracted o c k d C h q =
      let (Γ, m) = at-hand cs.terms c k d h in
      record { left = ((all-reordered (Over (signature_at Y o)) m q.left).0, q.left); right = q.right }

  -- the derivation of a proof, node by node
  abbrev pub tree : {o : List Q} {c : Hand Q} {bs : Bindings} {g : Goal Q} {P : Strip} → Proves cs o c bs g P → IsSequent (signature_at Y o) (left_of cs.terms c) (right_of cs.terms bs g) → Derivation (signature_at Y o) (left_of cs.terms c) (right_of cs.terms bs g)
  tree Proves.by-top q = Derivation.top-R q
  tree (Proves.by_and p r) q =
      Derivation.and-R q (tree p (record { left = q.left; right = q.right.0 })) (tree r (record { left = q.left; right = q.right.1 }))
  tree (Proves.by_left p) q = Derivation.or-R₁ q (tree p (record { left = q.left; right = q.right.0 }))
  tree (Proves.by_right p) q = Derivation.or-R₂ q (tree p (record { left = q.left; right = q.right.1 }))
  tree (Proves.by-some {o = o} {bs = bs} {q = s} {g = g} {i = i} m p) q =
      Derivation.some-R (meant cs.terms (Candidate i)) q (apt o s i m) (sym (bound cs.terms (Candidate i) bs (goal_formula g)))
      (tree p (record { left = q.left; right = instance-over o s i bs (goal_formula g) m q.right }))
  tree (Proves.by_all {o = o} {c = c} {bs = bs} {q = s} {g = g} p) q =
      Derivation.all-R (suc (length o)) q (next-fresh Y o) (sym (bound cs.terms (Parameter (suc (length o))) bs (goal_formula g)))
      (tree p (record {
        left = all-still-over Y (parameters_of o) (parameters_of (s ∷ o)) (λ x m. Memᴰ.tail m) (left_of cs.terms c) q.left;
        right = next-over o s bs (goal_formula g) q.right;
      }))
  tree (Proves.by-imp {o = o} {c = c} {bs = bs} {d = d} p) q =
      Derivation.implies-R q (joined cs.terms c (record { clause = d; bindings = bs }))
      (tree p (record {
        left = all-reordered (Over (signature_at Y o)) (Permᴰ.symm (joined cs.terms c (record { clause = d; bindings = bs }))) (q.right.0, q.left);
        right = q.right.1;
      }))
  tree (Proves.by-use₀ {o = o} {c = c} {bs = bs} {bs₁ = bs₁} {a = a} {b = b} {h = h} {k = k} e r s) q =
      Derivation.contr-L q (at-hand cs.terms c k h e).1 (Permᴰ.cons refl (at-hand cs.terms c k h e).1)
      (along (left_of cs.terms c) (right_of cs.terms bs (Goal.atom a)) r (contracted o c k h (right_of cs.terms bs (Goal.atom a)) e q)
      (λ u. closing (signature_at Y o) (left_of cs.terms c) (standing cs.terms bs₁ (Formula.atom b)) (right_of cs.terms bs (Goal.atom a)) (one-atom cs.terms bs bs₁ a b s) u))
  tree (Proves.by-use₁ {o = o} {c = c} {bs = bs} {bs₁ = bs₁} {a = a} {b = b} {h = h} {g = g} {k = k} e r s p) q =
      Derivation.contr-L q (at-hand cs.terms c k h e).1 (Permᴰ.cons refl (at-hand cs.terms c k h e).1)
      (along (left_of cs.terms c) (right_of cs.terms bs (Goal.atom a)) r (contracted o c k h (right_of cs.terms bs (Goal.atom a)) e q)
      (λ u.
      Derivation.implies-L u (Permᴰ.refl (ending cs.terms (End.at_imp g b bs₁) ∷ left_of cs.terms c)) (Permᴰ.refl (standing cs.terms bs₁ (Formula.atom b) ∷ left_of cs.terms c))
      (tree p (record { left = q.left; right = u.left.0.0 }))
      (closing (signature_at Y o) (left_of cs.terms c) (standing cs.terms bs₁ (Formula.atom b)) (right_of cs.terms bs (Goal.atom a)) (one-atom cs.terms bs bs₁ a b s) (record { left = (u.left.0.1, u.left.1); right = u.right }))))
