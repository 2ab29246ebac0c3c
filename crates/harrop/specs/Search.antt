-- The first proof within a height at a place, by recursion on the height left, the options in document 01's order ("Which strip the search writes").
-- That order is stated by itself in Order, and the first proof without any search in First; that this function finds that proof is shown in proofs/Finding.
-- Request Nine touches the line of `imp` (the search has no strip yet and enters no place); request Three touches none, since no strip changes.
use Rattle.std.specs.Prelude.{ℕ, zero, suc, ◌+◌, true, false, List, [], ◌∷◌, ◌++◌, length}
use Rattle.std.proofs.Math.Option.{Option, none, some}
use Rattle.std.proofs.Math.ListN.{get_elem?}
use Rattle.basics.specs.Choice.{◌>>=◌}
use Rattle.harrop.specs.declared.Binding.TheVariants.{Candidate, Parameter}
use Rattle.harrop.specs.Formula.{Atom, Goal, Clause, Step, Strip}
use Rattle.harrop.specs.Bindings.{Bindings, replaced_atom, same_atom}
use Rattle.harrop.specs.Place.{Candidates, Hand, Place, End, allowed}

-- the first answer at i, i + 1, .., n of them
abbrev pub first_from : {B : Type 0} → (ℕ → Option B) → ℕ → ℕ → Option B
first_from f i zero = none
first_from f i (suc n) = elim (f i) [ none ↦ first_from f (suc i) n | some b ↦ some b ]

module _ {Q : Type 0} (cs : Candidates Q) where
  -- the first answer of a candidate that may be used here, lower number first
  abbrev pub first_candidate : {B : Type 0} → List Q → Q → (ℕ → Option B) → Option B
  first_candidate {B} o q try = first_from (λ i. elim (allowed cs o q i) as (λ x. Option B) [ true ↦ try i | false ↦ none ]) 0 (length cs.terms)

  -- the first answer of a path into a clause, step by step: `l` before `r`, lower number first
  abbrev pub first_path : {B : Type 0} → List Q → Clause Q → Bindings → (List Step → End Q → Option B) → Option B
  first_path o (Clause.atom_d a) bs try = try [] (End.at_atom a bs)
  first_path o (Clause.imp_d g a) bs try = try [] (End.at_imp g a bs)
  first_path o (Clause.all_d q d) bs try = first_candidate o q (λ i. first_path o d (Candidate i ∷ bs) (λ path x. try (Step.n i ∷ path) x))
  first_path {B} o (Clause.and_d c d) bs try =
      elim (first_path o c bs (λ path x. try (Step.l ∷ path) x)) as (λ x. Option B) [ none ↦ first_path o d bs (λ path x. try (Step.r ∷ path) x) | some b ↦ some b ]

  -- the strip at the end of a path, if its atom is the one asked for and the body, if there is one, has a proof
  abbrev pub at_end : Atom → (Goal Q → Bindings → Option Strip) → ℕ → List Step → End Q → Option Strip
  at_end a prove k path (End.at_atom b bs) = elim (same_atom (replaced_atom cs.terms bs b) a) [ true ↦ some (Strip.use₀ k path) | false ↦ none ]
  at_end a prove k path (End.at_imp g b bs) =
      elim (same_atom (replaced_atom cs.terms bs b) a) [ true ↦ (prove g bs >>= λ P. some (Strip.use₁ k path P)) | false ↦ none ]

  abbrev pub first : ℕ → List Q → Hand Q → Bindings → Goal Q → Option Strip
  first zero o c bs g = none
  first (suc h) o c bs Goal.top = some Strip.top
  first (suc h) o c bs (Goal.atom a) =
      first_from
      (λ k.
      get_elem? c k >>= λ d.
      first_path o d.clause d.bindings (λ path x. at_end (replaced_atom cs.terms bs a) (λ g ds. first h o c ds g) k path x))
      0
      (length c)
  first (suc h) o c bs (Goal.and g g') = first h o c bs g >>= λ P. first h o c bs g' >>= λ R. some (Strip.and P R)
  first (suc h) o c bs (Goal.or g g') =
      elim (first h o c bs g) [ none ↦ (first h o c bs g' >>= λ R. some (Strip.right R)) | some P ↦ some (Strip.left P) ]
  first (suc h) o c bs (Goal.some q g) = first_candidate o q (λ i. first h o c (Candidate i ∷ bs) g >>= λ P. some (Strip.some i P))
  first (suc h) o c bs (Goal.all q g) = first h (q ∷ o) c (Parameter (suc (length o)) ∷ bs) g >>= λ P. some (Strip.all P)
  first (suc h) o c bs (Goal.imp d g) = first h o (c ++ (record { clause = d; bindings = bs } ∷ [])) bs g >>= λ P. some (Strip.imp P)

  -- the same at a place
  abbrev pub first_at : ℕ → Place Q → Option Strip
  first_at h pl = first h pl.opened pl.hand pl.bindings pl.goal
