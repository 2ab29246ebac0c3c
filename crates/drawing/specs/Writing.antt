-- What the functions that draw the first strip say, for every place that stands in the room and has a proof within the height (document 01, "Which strip the search writes").
-- `room` and `after` are the room's words before and after a call, `d` and `d'` the buffer's bytes; what the place relies on is kept. The first strip is crate harrop's.
use Rattle.std.specs.Prelude.{ℕ, suc, ◌+◌, ◌≤◌, ◌≡◌, Bool, true, List, get_or, Some}
use Rattle.std.specs.Prelude as std
use Rattle.std.proofs.Math.Option.{Option, some}
use Rattle.std.proofs.Math.ListN.{get_elem?}
use Rattle.harrop.specs.declared.Binding.TheVariants.{Candidate}
use Rattle.harrop.specs.Formula.{Term, Atom, Goal, Clause, Step, Strip}
use Rattle.harrop.specs.Bindings.{Bindings}
use Rattle.harrop.specs.Place.{AtHand, Hand, Plain, End, listed}
use Rattle.harrop.specs.Search.{first}
use Rattle.sexp.specs.Sexp.{nesting}
use Rattle.packet.specs.Written.{clause_sexp}
use Rattle.packet.specs.declared.Word.{Word}
use Rattle.room.specs.Frame.{binding_word}
use Rattle.room.specs.Files.{Files}
use Rattle.room.specs.declared.Spot.{Spot}
use Rattle.room.specs.declared.Where.{Where}
use Rattle.proving.specs.Provable.{serves}
use Rattle.proving.specs.Stock.{Stock, Keeps}
use Rattle.proving.specs.Proving.{Ready, Taken, proves_with, passes_with}
use Rattle.proving.specs.Parts.{is_plain, quantifiers}
use Rattle.proving.specs.First.{PathIn}
use Rattle.table.specs.Slots.{numbers_of}
use Rattle.heads.specs.Heads.{goal_word, clause_word}
use Rattle.drawing.specs.Chosen.{candidate_from, clause_from, way}
use Rattle.drawing.specs.Drawn.{Draws, DrawsRest, ended}
use Rattle.drawing.specs.declared.Drawn.{Drawn}

-- something drawn or chosen, and that what is relied on is kept
pub record Did (right : List ℕ → Type 0) (supposed top : ℕ) (room after : List ℕ) (D : Type 0) : Type 0 where
  pub kept : Keeps right supposed top room after
  pub done : D

-- the first strip of a goal
abbrev pub Writing : Files → List ℕ → List ℕ → List ℕ → List ℕ → Where → ℕ → ℕ → Drawn → Type 0
Writing f room after d d' w height at r =
    (ds : List (Clause Plain)) (us : List Term) (o : List Plain) (c : Hand Plain) (bs : Bindings) (g : Goal Plain) (S : Strip) →
    Ready f room ds us w height o c bs g →
    first (listed us) height o c bs g ≡ some S →
    Did (Stock f ds us w.supposed c) w.supposed w.top room after (Draws at S d d' r)

-- the same of a goal with a word, where so much is left for its parts
abbrev pub WritingAs : Word → Files → List ℕ → List ℕ → List ℕ → List ℕ → Where → ℕ → ℕ → Drawn → Type 0
WritingAs word f room after d d' w left at r =
    (ds : List (Clause Plain)) (us : List Term) (o : List Plain) (c : Hand Plain) (bs : Bindings) (g : Goal Plain) (S : Strip) →
    goal_word g ≡ word →
    Ready f room ds us w (suc left) o c bs g →
    first (listed us) (suc left) o c bs g ≡ some S →
    Did (Stock f ds us w.supposed c) w.supposed w.top room after (Draws at S d d' r)

-- the way through a clause, from its next step on, and the strip of the body at its end. Where it is located its numbers stand in the room, behind the clause's frame
abbrev pub Pathing : Files → List ℕ → List ℕ → List ℕ → List ℕ → Where → Spot → ℕ → ℕ → ℕ → Bool → Drawn → Type 0
Pathing f room after d d' w x nest left at located r =
    (ds : List (Clause Plain)) (us : List Term) (o : List Plain) (c : Hand Plain) (bs : Bindings) (a : Atom) (dc : Clause Plain) (bs' : Bindings) (path : List Step) (e : End Plain) (B : Option Strip) →
    nesting (clause_sexp dc) ≤ nest →
    Taken f room ds us w x left o c bs a dc bs' →
    way (listed us) o dc bs' (serves (listed us) left o c bs a) ≡ some (path, e) →
    ended (λ g bs''. first (listed us) left o c bs'' g) e ≡ some B →
    (located ≡ true → PathIn room (x.base + x.count) path) →
    Did (Stock f ds us w.supposed c) w.supposed (x.base + x.count) room after (DrawsRest at path B d d' r)

-- the same of a clause with a word, whose parts nest at most so deep
abbrev pub PathingAs : Word → Files → List ℕ → List ℕ → List ℕ → List ℕ → Where → Spot → ℕ → ℕ → ℕ → Bool → Drawn → Type 0
PathingAs word f room after d d' w x nest left at located r =
    (ds : List (Clause Plain)) (us : List Term) (o : List Plain) (c : Hand Plain) (bs : Bindings) (a : Atom) (dc : Clause Plain) (bs' : Bindings) (path : List Step) (e : End Plain) (B : Option Strip) →
    clause_word dc ≡ word →
    nesting (clause_sexp dc) ≤ suc nest →
    Taken f room ds us w x left o c bs a dc bs' →
    way (listed us) o dc bs' (serves (listed us) left o c bs a) ≡ some (path, e) →
    ended (λ g bs''. first (listed us) left o c bs'' g) e ≡ some B →
    (located ≡ true → PathIn room (x.base + x.count) path) →
    Did (Stock f ds us w.supposed c) w.supposed (x.base + x.count) room after (DrawsRest at path B d d' r)

-- the first candidate for a `some`
abbrev pub FirstWith : Files → List ℕ → List ℕ → Where → ℕ → ℕ → Type 0
FirstWith f room after w left r =
    (ds : List (Clause Plain)) (us : List Term) (o : List Plain) (c : Hand Plain) (bs : Bindings) (q : Plain) (g : Goal Plain) (i : ℕ) →
    Ready f room ds us w (suc left) o c bs (Goal.some q g) →
    candidate_from (listed us) o q (proves_with us left o c bs g) 0 ≡ some i →
    Did (Stock f ds us w.supposed c) w.supposed w.top room after (r ≡ i)

-- the first clause for an atom
abbrev pub FirstClause : Files → List ℕ → List ℕ → Where → ℕ → std.Option ℕ → Type 0
FirstClause f room after w left r =
    (ds : List (Clause Plain)) (us : List Term) (o : List Plain) (c : Hand Plain) (bs : Bindings) (a : Atom) (k : ℕ) →
    Ready f room ds us w (suc left) o c bs (Goal.atom a) →
    clause_from (listed us) o c (serves (listed us) left o c bs a) 0 ≡ some k →
    Did (Stock f ds us w.supposed c) w.supposed w.top room after (r ≡ Some k)

-- whether a slot of the table has as many words for numbers as clause k has quantifiers around it
abbrev pub HasNumbers : Files → List ℕ → Where → ℕ → ℕ → Bool → Type 0
HasNumbers f room w at k r =
    (ds : List (Clause Plain)) (us : List Term) (height : ℕ) (o : List Plain) (c : Hand Plain) (bs : Bindings) (g : Goal Plain) →
    Ready f room ds us w height o c bs g →
    r ≡ true → (h : AtHand Plain) → get_elem? c k ≡ some h → is_plain h.clause ≡ true → quantifiers h.clause ≤ numbers_of room at

-- the first candidate on the way into a clause
abbrev pub FirstThrough : Files → List ℕ → List ℕ → Where → Spot → ℕ → ℕ → ℕ → Type 0
FirstThrough f room after w x nest left r =
    (ds : List (Clause Plain)) (us : List Term) (o : List Plain) (c : Hand Plain) (bs : Bindings) (a : Atom) (q : Plain) (dc : Clause Plain) (bs' : Bindings) (i : ℕ) →
    nesting (clause_sexp (Clause.all_d q dc)) ≤ suc nest →
    Taken f room ds us w x left o c bs a (Clause.all_d q dc) bs' →
    candidate_from (listed us) o q (passes_with us left o c bs a dc bs') 0 ≡ some i →
    Did (Stock f ds us w.supposed c) w.supposed (x.base + x.count) room after (r ≡ i)

-- the same, where it may stand in the room already, behind the clause's frame
abbrev pub NumberThrough : Files → List ℕ → List ℕ → Where → Spot → ℕ → ℕ → Bool → ℕ → Type 0
NumberThrough f room after w x nest left located r =
    (ds : List (Clause Plain)) (us : List Term) (o : List Plain) (c : Hand Plain) (bs : Bindings) (a : Atom) (q : Plain) (dc : Clause Plain) (bs' : Bindings) (i : ℕ) →
    nesting (clause_sexp (Clause.all_d q dc)) ≤ suc nest →
    Taken f room ds us w x left o c bs a (Clause.all_d q dc) bs' →
    candidate_from (listed us) o q (passes_with us left o c bs a dc bs') 0 ≡ some i →
    (located ≡ true → get_or room (x.base + x.count) 0 ≡ binding_word (Candidate i)) →
    Did (Stock f ds us w.supposed c) w.supposed (x.base + x.count) room after ((r ≡ i) × (located ≡ true → after ≡ room))
