-- What is read is fair: refusal 5 leaves rules and goal closed, and candidates without variables and with parameters from 1 on (document 01, "The carrier and the words").
use Prim.Native.Nat.{ℕ, suc, ◌≤◌}
use mathlib.Core.Path.{◌≡◌}
use mathlib.Core.Bool.{Bool, true, false, false≢true}
use mathlib.Core.List.{List, [], ◌∷◌}
use lib.Dec.{leb}
use borrow.Author.Tests.{ltb-true, leb-true}
use Rattle.basics.specs.Choice.{both_true}
use Rattle.basics.specs.Each.{Each}
use Rattle.harrop.specs.Formula.{Term, Terms, Atom, Goal, Clause}
use Rattle.harrop.specs.Place.{Plain}
use Rattle.harrop.specs.Scoped.{TermWithin, TermsWithin, AtomWithin, GoalWithin, ClauseWithin, ClosedClause, Candid, Fair}
use Rattle.packet.specs.Barred.{Holds, parameter_ok, term_ok, terms_ok, atom_ok, goal_ok, clause_ok, each_ok}
use Rattle.packet.specs.File.{Books}
use Rattle.packet.specs.Sound.{SoundBooks}

module _ (holds : Holds) (P : ℕ → Type 0) (f : (k : ℕ) → parameter_ok holds k ≡ true → P k) where
  mutual
    pub term-within : (t : Term) (n : ℕ) → term_ok holds n t ≡ true → TermWithin P n t
    term-within (Term.v i) n h = ltb-true i n h
    term-within (Term.f g ts) n h = terms-within ts n h
    term-within (Term.e k) n h = f k h

    pub terms-within : (ts : Terms) (n : ℕ) → terms_ok holds n ts ≡ true → TermsWithin P n ts
    terms-within Terms.nil n h = tt
    terms-within (Terms.cons t ts) n h =
        let (a, b) = both_true (term_ok holds n t) (terms_ok holds n ts) h in
        (term-within t n a, terms-within ts n b)

-- rules and goal hold no parameter
no-parameter : (k : ℕ) → parameter_ok false k ≡ true → ⊥
no-parameter k h = false≢true h

atom-within : (a : Atom) (n : ℕ) → atom_ok n a ≡ true → AtomWithin (λ k. ⊥) n a
atom-within (Atom.atom p ts) n h = terms-within false (λ k. ⊥) no-parameter ts n h

mutual
  pub goal-within : (g : Goal Plain) (n : ℕ) → goal_ok n g ≡ true → GoalWithin (λ k. ⊥) n g
  goal-within Goal.top n h = tt
  goal-within (Goal.atom a) n h = atom-within a n h
  goal-within (Goal.and g k) n h = let (a, b) = both_true (goal_ok n g) (goal_ok n k) h in (goal-within g n a, goal-within k n b)
  goal-within (Goal.or g k) n h = let (a, b) = both_true (goal_ok n g) (goal_ok n k) h in (goal-within g n a, goal-within k n b)
  goal-within (Goal.some q g) n h = goal-within g (suc n) h
  goal-within (Goal.all q g) n h = goal-within g (suc n) h
  goal-within (Goal.imp d g) n h = let (a, b) = both_true (clause_ok n d) (goal_ok n g) h in (clause-within d n a, goal-within g n b)

  pub clause-within : (d : Clause Plain) (n : ℕ) → clause_ok n d ≡ true → ClauseWithin (λ k. ⊥) n d
  clause-within (Clause.atom_d a) n h = atom-within a n h
  clause-within (Clause.imp_d g a) n h = let (x, y) = both_true (goal_ok n g) (atom_ok n a) h in (goal-within g n x, atom-within a n y)
  clause-within (Clause.all_d q d) n h = clause-within d (suc n) h
  clause-within (Clause.and_d c d) n h = let (a, b) = both_true (clause_ok n c) (clause_ok n d) h in (clause-within c n a, clause-within d n b)

-- all of a list
each_within : {A : Type 0} (ok : A → Bool) (P : A → Type 0) → ((a : A) → ok a ≡ true → P a) → (xs : List A) → each_ok ok xs ≡ true → Each P xs
each_within ok P f [] h = tt
each_within ok P f (x ∷ xs) h = let (a, b) = both_true (ok x) (each_ok ok xs) h in (f x a, each_within ok P f xs b)

-- a parameter of a candidate is from 1 on
from_one : (k : ℕ) → parameter_ok true k ≡ true → 1 ≤ k
from_one k h = let (a, b) = both_true (leb 1 k) (leb k 64) h in leb-true 1 k a

pub read-is-fair : {rs gs ts : List ℕ} (b : Books) → SoundBooks rs gs ts b → Fair b.rules b.goal b.candidates
read-is-fair b s =
    record {
      rules = each_within (clause_ok 0) ClosedClause (λ d. clause-within d 0) b.rules s.good_rules.unbarred;
      goal = goal-within b.goal 0 s.good_goal;
      terms = each_within (term_ok true 0) Candid (λ t. term-within true (λ k. 1 ≤ k) from_one t 0) b.candidates s.good_candidates.unbarred;
    }
