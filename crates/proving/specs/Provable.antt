-- Whether a place has a proof within a height: yes or no, by the walk that the search makes (document 01, "Which strip the search writes": proving a goal needs the proof of clause bodies, and those are goals again; the height left falls at each turn).
-- A goal asks the clauses at hand by number, a clause is taken apart from outside, and where it ends its atom is looked at before its body. No order and no strip in it: that it is yes exactly where crate harrop's `first` finds a strip is shown in proofs/ProvableLaws.
use Rattle.std.specs.Prelude.{ℕ, zero, suc, ◌-◌, Bool, true, false, ◌&&◌, ◌||◌, List, [], ◌∷◌, ◌++◌, length}
use Rattle.std.proofs.Math.Option.{Option, none, some}
use Rattle.std.proofs.Math.ListN.{get_elem?}
use Rattle.basics.specs.Choice.{maybe}
use Rattle.harrop.specs.declared.Binding.TheVariants.{Candidate, Parameter}
use Rattle.harrop.specs.Formula.{Term, Atom, Goal, Clause}
use Rattle.harrop.specs.Bindings.{Bindings, replaced_atom, same_atom}
use Rattle.harrop.specs.Place.{Candidates, Hand, End, Plain, listed, allowed}

-- whether there is an answer
abbrev pub is_some : {A : Type 0} → Option A → Bool
is_some none = false
is_some (some a) = true

-- whether one of i, i + 1, .., n of them, answers yes
unfoldable pub any_from : (ℕ → Bool) → ℕ → ℕ → Bool
any_from f i zero = false
any_from f i (suc n) = f i || any_from f (suc i) n

module _ {Q : Type 0} (cs : Candidates Q) where
  -- candidate i may be used here and answers yes
  unfoldable pub candidate_does : List Q → Q → (ℕ → Bool) → ℕ → Bool
  candidate_does o q try i = allowed cs o q i && try i

  -- whether a candidate from i on does
  unfoldable pub candidates_from : List Q → Q → (ℕ → Bool) → ℕ → Bool
  candidates_from o q try i = any_from (candidate_does o q try) i (length cs.terms - i)

  -- whether a path into a clause ends where the answer is yes
  unfoldable pub through : List Q → Clause Q → Bindings → (End Q → Bool) → Bool
  through o (Clause.atom_d a) bs try = try (End.at_atom a bs)
  through o (Clause.imp_d g a) bs try = try (End.at_imp g a bs)
  through o (Clause.all_d q d) bs try = candidates_from o q (λ i. through o d (Candidate i ∷ bs) try) 0
  through o (Clause.and_d c d) bs try = through o c bs try || through o d bs try

  -- whether the atom at the end of a path is the one asked for and the body, if there is one, has a proof
  unfoldable pub ending : Atom → (Goal Q → Bindings → Bool) → End Q → Bool
  ending a prove (End.at_atom b bs) = same_atom (replaced_atom cs.terms bs b) a
  ending a prove (End.at_imp g b bs) = same_atom (replaced_atom cs.terms bs b) a && prove g bs

  -- whether clause k at hand serves an atom
  unfoldable pub clause_does : List Q → Hand Q → (End Q → Bool) → ℕ → Bool
  clause_does o c try k = maybe (get_elem? c k) false λ d. through o d.clause d.bindings try

  -- whether a clause from k on does
  unfoldable pub clauses_from : List Q → Hand Q → (End Q → Bool) → ℕ → Bool
  clauses_from o c try k = any_from (clause_does o c try) k (length c - k)

  -- whether a goal has a proof within a height; an atom is asked for with its variables replaced
  unfoldable pub provable : ℕ → List Q → Hand Q → Bindings → Goal Q → Bool
  provable zero o c bs g = false
  provable (suc h) o c bs Goal.top = true
  provable (suc h) o c bs (Goal.atom a) = clauses_from o c (ending (replaced_atom cs.terms bs a) (λ g ds. provable h o c ds g)) 0
  provable (suc h) o c bs (Goal.and g g') = provable h o c bs g && provable h o c bs g'
  provable (suc h) o c bs (Goal.or g g') = provable h o c bs g || provable h o c bs g'
  provable (suc h) o c bs (Goal.some q g) = candidates_from o q (λ i. provable h o c (Candidate i ∷ bs) g) 0
  provable (suc h) o c bs (Goal.all q g) = provable h (q ∷ o) c (Parameter (suc (length o)) ∷ bs) g
  provable (suc h) o c bs (Goal.imp d g) = provable h o (c ++ (record { clause = d; bindings = bs } ∷ [])) bs g

  -- what the end of a path is asked at an atom with height h left for the body
  abbrev pub serves : ℕ → List Q → Hand Q → Bindings → Atom → End Q → Bool
  serves h o c bs a = ending (replaced_atom cs.terms bs a) (λ g ds. provable h o c ds g)

-- whether a path through a clause ends well
abbrev pub passes : List Term → ℕ → List Plain → Hand Plain → Bindings → Atom → Clause Plain → Bindings → Bool
passes us left o c bs a d bs' = through (listed us) o d bs' (serves (listed us) left o c bs a)
