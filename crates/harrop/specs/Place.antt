-- A place in a proof, which candidates may be used there, and what a path reaches (document 01, "When a strip fits").
-- Request Twelve gives `suits` its meaning and reads `opened`; in the first edition `suits` holds of every term (`listed`). Request Nine adds a field to AtHand: `at_start` and the record that an `imp` makes (in Proves, Fits, Check and Search) are the places that fill it.
use Rattle.std.specs.Prelude.{ℕ, Bool, true, false, ◌&&◌, List, [], ◌∷◌, leb, length}
use Rattle.std.proofs.Math.Option.{Option, none, some}
use Rattle.std.proofs.Math.ListN.{get_elem?}
use Rattle.basics.specs.Choice.{provided}
use Rattle.harrop.specs.declared.Binding.TheVariants.{Candidate}
use Rattle.harrop.specs.Formula.{Term, Atom, Goal, Clause, Step}
use Rattle.harrop.specs.Bindings.{Bindings, highest}

-- the candidate terms, and what is asked of one besides document 01's two conditions. `suits o q t`: the term t may stand for a variable whose quantifier carries q, where o is what the
-- quantifiers of the open parameters carry, the latest first
pub record Candidates (Q : Type 0) : Type 0 where
  pub terms : List Term
  pub suits : List Q → Q → Term → Bool

-- a clause at hand, with its variables as they stand
pub record AtHand (Q : Type 0) : Type 0 where
  pub clause : Clause Q
  pub bindings : Bindings

abbrev pub Hand : Type 0 → Type 0
Hand Q = List (AtHand Q)

-- a goal with its bindings, the clauses at hand in order, and the open parameters, the latest first, each by what its quantifier carries; document 01's p is their number
pub record Place (Q : Type 0) : Type 0 where
  pub goal : Goal Q
  pub bindings : Bindings
  pub hand : Hand Q
  pub opened : List Q

abbrev pub place : {Q : Type 0} → List Q → Hand Q → Bindings → Goal Q → Place Q
place o c bs g = record { goal = g; bindings = bs; hand = c; opened = o }

-- what a path reaches: an atom, or G implies an atom, with its variables as the path set them
pub data End (Q : Type 0) : Type 0 where
  at_atom : Atom → Bindings → End Q
  at_imp : Goal Q → Atom → Bindings → End Q

-- a path ends exactly there
abbrev pub ends : {Q : Type 0} → List Step → End Q → Option (End Q)
ends [] x = some x
ends (s ∷ path) x = none

module _ {Q : Type 0} (cs : Candidates Q) where
  -- candidate i may be used for a variable whose quantifier carries q: i is below the number of candidates, no parameter in it is above p, and it suits
  abbrev pub allowed : List Q → Q → ℕ → Bool
  allowed o q i = elim (get_elem? cs.terms i) [ none ↦ false | some t ↦ leb (highest t) (length o) && cs.suits o q t ]

  -- where a path ends that takes a clause apart from outside: `l` or `r` at an `and`, a number at an `all`
  abbrev pub follow : List Q → Clause Q → Bindings → List Step → Option (End Q)
  follow o (Clause.atom_d a) bs path = ends path (End.at_atom a bs)
  follow o (Clause.imp_d g a) bs path = ends path (End.at_imp g a bs)
  follow o (Clause.all_d q d) bs [] = none
  follow o (Clause.all_d q d) bs (Step.l ∷ path) = none
  follow o (Clause.all_d q d) bs (Step.r ∷ path) = none
  follow o (Clause.all_d q d) bs (Step.n i ∷ path) = provided (allowed o q i) (follow o d (Candidate i ∷ bs) path)
  follow o (Clause.and_d c d) bs [] = none
  follow o (Clause.and_d c d) bs (Step.l ∷ path) = follow o c bs path
  follow o (Clause.and_d c d) bs (Step.r ∷ path) = follow o d bs path
  follow o (Clause.and_d c d) bs (Step.n i ∷ path) = none

-- the first edition: a quantifier carries nothing, and nothing more is asked of a candidate
abbrev pub Plain : Type 0
Plain = Unit {0}

abbrev pub listed : List Term → Candidates Plain
listed ts = record { terms = ts; suits = λ o q t. true }

-- the rules at hand at the start, each with no variable set
abbrev pub at_start : {Q : Type 0} → List (Clause Q) → Hand Q
at_start [] = []
at_start (d ∷ ds) = record { clause = d; bindings = [] } ∷ at_start ds

-- the root place of a packet: the goal file's goal, the rules in file order numbered from 0, and no open parameter
abbrev pub root : {Q : Type 0} → List (Clause Q) → Goal Q → Place Q
root ds g = record { goal = g; bindings = []; hand = at_start ds; opened = [] }
