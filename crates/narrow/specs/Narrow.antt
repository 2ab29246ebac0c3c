-- Which candidates a variable need be tried with (document 02, Three: no verdict and no strip changes). An atom at a spot, in a frame where some variables are not set yet, is given a mark for each candidate.
-- A candidate that is left out does not serve: whatever the frame becomes that gives it to the variable, no head of a clause at hand becomes the atom. Of two candidates with the same term the first may be marked for both.
use Rattle.std.specs.Prelude.{ℕ, ◌+◌, ◌≤◌, ◌<◌, ◌≡◌, Bool, true, false, List, [], ◌∷◌, length, get_or}
use Rattle.std.proofs.Math.Option.{some}
use Rattle.std.proofs.Math.ListN.{get_elem?}
use Rattle.harrop.specs.declared.Binding.{Binding}
use Rattle.harrop.specs.declared.Binding.TheVariants.{Candidate}
use Rattle.harrop.specs.Formula.{Term, Atom, Clause}
use Rattle.harrop.specs.Bindings.{Bindings, meant, value_of, replaced_atom, same_atom}
use Rattle.harrop.specs.Place.{AtHand, Hand, Plain}
use Rattle.room.specs.Spot.{bindings_at}
use Rattle.room.specs.Table.{CandidatesIn}
use Rattle.equal.specs.Term.{AtomAt}
use Rattle.room.specs.Where.{HandIn, Booked}
use Rattle.room.specs.Files.{Files}
use Rattle.room.specs.declared.Spot.{Spot}
use Rattle.mentions.specs.Open.{Becomes}
use Rattle.keys.specs.Keys.{KeysIn, CandidateKeys, PredicateKeyAt}
use Rattle.unset.specs.Unset.{Small}
use Rattle.arguments.specs.Arguments.{ArgumentsAre}
use Rattle.narrow.specs.Heads.{in_rules, HeadsIn}
use Rattle.narrow.specs.Kept.{no_variable, ArgumentsIn}

-- no head of a clause becomes an atom, whatever the variables are replaced by that the clause itself quantifies
abbrev pub NoHead : List Term → Bindings → Clause Plain → Atom → Type 0
NoHead us bs (Clause.atom_d b) a = same_atom (replaced_atom us bs b) a ≡ false
NoHead us bs (Clause.imp_d g b) a = same_atom (replaced_atom us bs b) a ≡ false
NoHead us bs (Clause.all_d q d) a = (x : Binding) → NoHead us (x ∷ bs) d a
NoHead us bs (Clause.and_d c d) a = NoHead us bs c a × NoHead us bs d a

-- a candidate that the marks leave out: it has none, and it is the first with its term
pub record LeftOut (us : List Term) (marks : List ℕ) (i : ℕ) : Type 0 where
  pub few : i < length us
  pub enough : length us ≤ length marks
  pub unmarked : get_or marks i 0 ≡ 0
  pub first : (j : ℕ) → j < i → meant us (Candidate j) ≡ meant us (Candidate i) → ⊥

-- what a frame becomes that gives such a candidate to variable v
pub record Gives (room : List ℕ) (us : List Term) (x : Spot) (own v : ℕ) (marks : List ℕ) (i : ℕ) (es : Bindings) : Type 0 where
  pub left : LeftOut us marks i
  pub becomes : Becomes us own (bindings_at room x) es
  pub value : value_of us es v ≡ meant us (Candidate i)

-- then no head of a clause becomes the atom
abbrev pub CannotServe : List ℕ → List Term → Spot → ℕ → ℕ → List ℕ → Atom → Bindings → Clause Plain → Type 0
CannotServe room us x own v marks a bs d = (i : ℕ) (es : Bindings) → Gives room us x own v marks i es → NoHead us bs d (replaced_atom us es a)

-- the room's tables are right, and an atom stands at the spot
pub record Known (f : Files) (room : List ℕ) (ds : List (Clause Plain)) (us : List Term) (x : Spot) (a : Atom) : Type 0 where
  pub booked : Booked f room ds us
  pub keys : KeysIn room ds us
  pub heads : HeadsIn room f.rules ds
  pub arguments : ArgumentsIn room ds us
  pub atom : AtomAt f x a

-- no mark is taken back
pub record More (before after : List ℕ) : Type 0 where
  pub long : length after ≡ length before
  pub kept : (i : ℕ) → get_or after i 0 ≡ 0 → get_or before i 0 ≡ 0

-- marks are added; if the answer is yes, they say something
pub record Adds (before after : List ℕ) (r : Bool) (says : Type 0) : Type 0 where
  pub more : More before after
  pub told : r ≡ true → says

-- by one head, at a second spot, in a frame that is set
abbrev pub ByHead : Files → List ℕ → Spot → Spot → ℕ → ℕ → List ℕ → Type 0
ByHead f room x y own v marks =
    (us : List Term) (a b : Atom) → Small f → CandidatesIn room f.terms us → CandidateKeys room us → AtomAt f x a → AtomAt f y b
    → (i : ℕ) (es : Bindings) → Gives room us x own v marks i es → same_atom (replaced_atom us (bindings_at room y) b) (replaced_atom us es a) ≡ false

-- by one head, and by the words of the atom's arguments and of the head's
abbrev pub ByFact : Files → List ℕ → Spot → Spot → ℕ → ℕ → ℕ → ℕ → List ℕ → Type 0
ByFact f room x y own v asked kept marks =
    (us : List Term) (a b : Atom) → Small f → CandidatesIn room f.terms us → CandidateKeys room us → AtomAt f x a → AtomAt f y b
    → ArgumentsAre us own (bindings_at room x) v a asked → ArgumentsAre us 0 (bindings_at room y) no_variable b kept
    → (i : ℕ) (es : Bindings) → Gives room us x own v marks i es → same_atom (replaced_atom us (bindings_at room y) b) (replaced_atom us es a) ≡ false

-- by rule k, where the number is that of the atom's predicate, and the word that of its arguments
abbrev pub ByRule : Files → List ℕ → Spot → ℕ → ℕ → ℕ → ℕ → List ℕ → ℕ → Type 0
ByRule f room x own v predicate asked marks k =
    PredicateKeyAt f x predicate
    → (ds : List (Clause Plain)) (us : List Term) (a : Atom) → Known f room ds us x a → ArgumentsAre us own (bindings_at room x) v a asked → (d : Clause Plain) → get_elem? ds k ≡ some d → CannotServe room us x own v marks a [] d

-- by supposed clause j
abbrev pub ByOne : Files → List ℕ → Spot → ℕ → ℕ → List ℕ → ℕ → Type 0
ByOne f room x own v marks j =
    (ds : List (Clause Plain)) (us : List Term) (a : Atom) → Known f room ds us x a → (supposed top : ℕ) (c : Hand Plain) → HandIn f room ds supposed top c
    → (h : AtHand Plain) → get_elem? c (length ds + j) ≡ some h → CannotServe room us x own v marks a h.bindings h.clause

-- by clause k at hand, whichever it is
abbrev pub ByClause : Files → List ℕ → Spot → ℕ → ℕ → ℕ → ℕ → List ℕ → ℕ → Type 0
ByClause f room x own v predicate asked marks k =
    PredicateKeyAt f x predicate
    → (ds : List (Clause Plain)) (us : List Term) (a : Atom) → Known f room ds us x a → ArgumentsAre us own (bindings_at room x) v a asked → (supposed top : ℕ) (c : Hand Plain) → HandIn f room ds supposed top c
    → (h : AtHand Plain) → get_elem? c k ≡ some h → CannotServe room us x own v marks a h.bindings h.clause

-- the spot in the rule file, in no frame, at the offset that a word of the room keeps
abbrev pub rule_spot : List ℕ → ℕ → Spot
rule_spot room i = in_rules (get_or room i 0)
