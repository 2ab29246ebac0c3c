-- What the functions of the yes or no say, for every place that stands in the room (document 01, "Which strip the search writes": whether a place has a proof within the height left).
-- The places are those of crate harrop; `room` and `after` are the room's words before and after a call, and what the place relies on is kept.
use Rattle.std.specs.Prelude.{ℕ, suc, ◌+◌, ◌*◌, ◌%◌, ◌≤◌, ◌<◌, ◌≡◌, Bool, true, false, List, ◌∷◌, length, Option, Some, None}
use Rattle.harrop.specs.declared.Binding.TheVariants.{Candidate}
use Rattle.harrop.specs.Formula.{Term, Atom, Goal, Clause}
use Rattle.harrop.specs.Bindings.{Bindings, replaced_atom}
use Rattle.harrop.specs.Place.{Hand, Plain, listed}
use Rattle.sexp.specs.Sexp.{nesting}
use Rattle.packet.specs.Written.{clause_sexp}
use Rattle.packet.specs.Barred.{clause_ok}
use Rattle.packet.specs.declared.Word.{Word}
use Rattle.room.specs.Layout.{words, levels, Enough}
use Rattle.room.specs.Where.{Framed, Means}
use Rattle.room.specs.Files.{Files}
use Rattle.room.specs.declared.Spot.{Spot}
use Rattle.room.specs.declared.Where.{Where}
use Rattle.proving.specs.Provable as provable
pub use Rattle.proving.specs.Provable.{passes}
use Rattle.heads.specs.Heads.{goal_word, clause_word}
use Rattle.keys.specs.Key.{atom_key, predicate_key}
use Rattle.keys.specs.Keys.{key_word}
use Rattle.proving.specs.Stock.{Stock, Keeps}

-- what is given where a goal is searched: the place, enough of the room for the height, below what the search keeps there, and that this is right
pub record Ready (f : Files) (room : List ℕ) (ds : List (Clause Plain)) (us : List Term) (w : Where) (height : ℕ) (o : List Plain) (c : Hand Plain) (bs : Bindings) (g : Goal Plain) : Type 0 where
  pub place : Means f room ds us w o c bs g
  pub enough : Enough w.top w.supposed w.parameters height
  pub long : words ≤ length room
  pub low : w.top + levels * height ≤ key_word 0
  pub stock : Stock f ds us w.supposed c room

-- and where a clause is taken apart for an atom: the atom's place, and the clause with a frame of its own on top of the stack
pub record Taken (f : Files) (room : List ℕ) (ds : List (Clause Plain)) (us : List Term) (w : Where) (x : Spot) (left : ℕ) (o : List Plain) (c : Hand Plain) (bs : Bindings) (a : Atom) (d : Clause Plain) (bs' : Bindings) : Type 0 where
  pub ready : Ready f room ds us w (suc left) o c bs (Goal.atom a)
  pub framed : Framed f room x (x.base + x.count) (clause_sexp d) bs'
  pub scoped : clause_ok (length bs') d ≡ true
  pub fresh : x.base ≡ w.top

-- the answer, and that what is relied on is kept
pub record Answers (right : List ℕ → Type 0) (supposed top : ℕ) (room after : List ℕ) (yes r : Bool) : Type 0 where
  pub kept : Keeps right supposed top room after
  pub answer : r ≡ yes

-- whether the goal of a place has a proof within a height
abbrev pub Proving : Files → List ℕ → List ℕ → Where → ℕ → Bool → Type 0
Proving f room after w height r =
    (ds : List (Clause Plain)) (us : List Term) (o : List Plain) (c : Hand Plain) (bs : Bindings) (g : Goal Plain) →
    Ready f room ds us w height o c bs g →
    Answers (Stock f ds us w.supposed c) w.supposed w.top room after (provable.provable (listed us) height o c bs g) r

-- the same of a goal with a word, where so much is left for its parts
abbrev pub ProvingAs : Word → Files → List ℕ → List ℕ → Where → ℕ → Bool → Type 0
ProvingAs word f room after w left r =
    (ds : List (Clause Plain)) (us : List Term) (o : List Plain) (c : Hand Plain) (bs : Bindings) (g : Goal Plain) →
    goal_word g ≡ word →
    Ready f room ds us w (suc left) o c bs g →
    Answers (Stock f ds us w.supposed c) w.supposed w.top room after (provable.provable (listed us) (suc left) o c bs g) r

-- whether candidate i does for a `some`
abbrev pub proves_with : List Term → ℕ → List Plain → Hand Plain → Bindings → Goal Plain → ℕ → Bool
proves_with us left o c bs g j = provable.provable (listed us) left o c (Candidate j ∷ bs) g

-- whether clause k serves an atom
abbrev pub ProvingBy : Files → List ℕ → List ℕ → Where → ℕ → ℕ → Bool → Type 0
ProvingBy f room after w k left r =
    (ds : List (Clause Plain)) (us : List Term) (o : List Plain) (c : Hand Plain) (bs : Bindings) (a : Atom) →
    Ready f room ds us w (suc left) o c bs (Goal.atom a) →
    Answers (Stock f ds us w.supposed c) w.supposed w.top room after (provable.clause_does (listed us) o c (provable.serves (listed us) left o c bs a) k) r

-- a number below all that does, before which none does
pub record FirstOf (all : ℕ) (does : ℕ → Bool) (k : ℕ) : Type 0 where
  pub few : k < all
  pub before : (j : ℕ) → j < k → does j ≡ false
  pub here : does k ≡ true

-- the first clause that serves an atom, by number: none before it does, and it does; or none of all does
pub record Finds (right : List ℕ → Type 0) (supposed top : ℕ) (room after : List ℕ) (all : ℕ) (does : ℕ → Bool) (r : Option ℕ) : Type 0 where
  pub kept : Keeps right supposed top room after
  pub one : (k : ℕ) → r ≡ Some k → FirstOf all does k
  pub none : r ≡ None → (j : ℕ) → j < all → does j ≡ false

-- where the numbers of the atom and of its predicate are known
abbrev pub Finding : Files → List ℕ → List ℕ → Where → ℕ → ℕ → ℕ → Option ℕ → Type 0
Finding f room after w predicate key left r =
    (ds : List (Clause Plain)) (us : List Term) (o : List Plain) (c : Hand Plain) (bs : Bindings) (a : Atom) →
    Ready f room ds us w (suc left) o c bs (Goal.atom a) →
    predicate ≡ predicate_key a → key ≡ atom_key (replaced_atom us bs a) →
    Finds (Stock f ds us w.supposed c) w.supposed w.top room after (length c) (provable.clause_does (listed us) o c (provable.serves (listed us) left o c bs a)) r

-- whether an atom has a proof, which the table is to keep in a slot
abbrev pub Deciding : Files → List ℕ → List ℕ → Where → ℕ → ℕ → ℕ → ℕ → Bool → Type 0
Deciding f room after w predicate key at left r =
    (ds : List (Clause Plain)) (us : List Term) (o : List Plain) (c : Hand Plain) (bs : Bindings) (a : Atom) →
    Ready f room ds us w (suc left) o c bs (Goal.atom a) →
    predicate ≡ predicate_key a → key ≡ atom_key (replaced_atom us bs a) → at % 16 ≡ 0 →
    Answers (Stock f ds us w.supposed c) w.supposed w.top room after (provable.provable (listed us) (suc left) o c bs (Goal.atom a)) r

-- whether a path through a clause ends well
abbrev pub Passing : Files → List ℕ → List ℕ → Where → Spot → ℕ → ℕ → Bool → Type 0
Passing f room after w x nest left r =
    (ds : List (Clause Plain)) (us : List Term) (o : List Plain) (c : Hand Plain) (bs : Bindings) (a : Atom) (d : Clause Plain) (bs' : Bindings) →
    nesting (clause_sexp d) ≤ nest →
    Taken f room ds us w x left o c bs a d bs' →
    Answers (Stock f ds us w.supposed c) w.supposed (x.base + x.count) room after (passes us left o c bs a d bs') r

-- the same of a clause with a word, whose parts nest at most so deep
abbrev pub PassingAs : Word → Files → List ℕ → List ℕ → Where → Spot → ℕ → ℕ → Bool → Type 0
PassingAs word f room after w x nest left r =
    (ds : List (Clause Plain)) (us : List Term) (o : List Plain) (c : Hand Plain) (bs : Bindings) (a : Atom) (d : Clause Plain) (bs' : Bindings) →
    clause_word d ≡ word →
    nesting (clause_sexp d) ≤ suc nest →
    Taken f room ds us w x left o c bs a d bs' →
    Answers (Stock f ds us w.supposed c) w.supposed (x.base + x.count) room after (passes us left o c bs a d bs') r

-- whether candidate i does for an `all`
abbrev pub passes_with : List Term → ℕ → List Plain → Hand Plain → Bindings → Atom → Clause Plain → Bindings → ℕ → Bool
passes_with us left o c bs a d bs' j = passes us left o c bs a d (Candidate j ∷ bs')

abbrev pub PassingWith : Files → List ℕ → List ℕ → Where → Spot → ℕ → ℕ → ℕ → Bool → Type 0
PassingWith f room after w x i nest left r =
    (ds : List (Clause Plain)) (us : List Term) (o : List Plain) (c : Hand Plain) (bs : Bindings) (a : Atom) (q : Plain) (d : Clause Plain) (bs' : Bindings) →
    nesting (clause_sexp (Clause.all_d q d)) ≤ suc nest →
    Taken f room ds us w x left o c bs a (Clause.all_d q d) bs' →
    Answers (Stock f ds us w.supposed c) w.supposed (x.base + x.count) room after (provable.candidate_does (listed us) o q (passes_with us left o c bs a d bs') i) r
