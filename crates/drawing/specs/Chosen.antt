-- The option that the search takes at a place: the first that has a proof within the height left (document 01, "Which strip the search writes"), told by yes and no alone.
-- The candidate by number; for an atom the clause by number, then the path, step by step. So a walk that asks yes or no of each option in order, and goes on in the one chosen, finds crate harrop's first strip: proofs/ChosenLaws.
use Rattle.std.specs.Prelude.{ℕ, zero, suc, ◌-◌, Bool, true, false, List, [], ◌∷◌, length}
use Rattle.std.proofs.Math.Option.{Option, none, some}
use Rattle.basics.specs.Choice.{choose, ◌>>=◌, provided}
use Rattle.harrop.specs.declared.Binding.TheVariants.{Candidate}
use Rattle.harrop.specs.Formula.{Clause, Step, Strip, Goal}
use Rattle.harrop.specs.Bindings.{Bindings}
use Rattle.harrop.specs.Place.{Candidates, Hand, End}
use Rattle.proving.specs.Provable.{candidate_does, clause_does, through}

-- the first of i, i + 1, .., n of them, that answers yes
unfoldable pub first_yes : (ℕ → Bool) → ℕ → ℕ → Option ℕ
first_yes f i zero = none
first_yes f i (suc n) = choose (f i) (some i) (first_yes f (suc i) n)

-- a step before a path
abbrev pub stepping : {Q : Type 0} → Step → Option (List Step × End Q) → Option (List Step × End Q)
stepping s w = w >>= λ x. some (s ∷ x.0, x.1)

-- the strip that a use of clause k along a path is, once the part at its end is there
abbrev pub used_at : {Q : Type 0} → (Goal Q → Bindings → Option Strip) → ℕ → List Step → End Q → Option Strip
used_at prove k path (End.at_atom b bs) = some (Strip.use₀ k path)
used_at prove k path (End.at_imp g b bs) = prove g bs >>= λ P. some (Strip.use₁ k path P)

module _ {Q : Type 0} (cs : Candidates Q) where
  -- the first candidate from i on that may be used here and answers yes
  unfoldable pub candidate_from : List Q → Q → (ℕ → Bool) → ℕ → Option ℕ
  candidate_from o q try i = first_yes (candidate_does cs o q try) i (length cs.terms - i)

  -- the first clause from k on that answers yes
  unfoldable pub clause_from : List Q → Hand Q → (End Q → Bool) → ℕ → Option ℕ
  clause_from o c try k = first_yes (clause_does cs o c try) k (length c - k)

  -- the first path into a clause whose end answers yes, and that end: `l` before `r`, lower number first
  unfoldable pub way : List Q → Clause Q → Bindings → (End Q → Bool) → Option (List Step × End Q)
  way o (Clause.atom_d a) bs try = provided (try (End.at_atom a bs)) (some ([], End.at_atom a bs))
  way o (Clause.imp_d g a) bs try = provided (try (End.at_imp g a bs)) (some ([], End.at_imp g a bs))
  way o (Clause.all_d q d) bs try =
      candidate_from o q (λ i. through cs o d (Candidate i ∷ bs) try) 0 >>= λ i. stepping (Step.n i) (way o d (Candidate i ∷ bs) try)
  way o (Clause.and_d c d) bs try = choose (through cs o c bs try) (stepping Step.l (way o c bs try)) (stepping Step.r (way o d bs try))
