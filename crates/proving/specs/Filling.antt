-- A clause with no `and` on the way to its head, searched with its variables unset at first: what its frame may become, and what a search that sets them one after the other says (document 02, Three: the head decides before candidates are tried, and a goal of a body is looked at as soon as its variables are set).
-- A yes says that the frame that is left is the first completion with which a path ends well (specs/First), a no that there is none. That this is `passes` of the whole clause is shown in proofs/FillingLaws.
use Rattle.std.specs.Prelude.{ℕ, zero, suc, ◌+◌, ◌-◌, ◌≤◌, ◌<◌, ◌≡◌, Bool, true, false, List, length, get_or, Option, Some, None}
use Rattle.std.proofs.Math.Option.{some}
use Rattle.std.proofs.Math.ListN.{get_elem?}
use Rattle.harrop.specs.declared.Binding.TheVariants.{Candidate}
use Rattle.harrop.specs.Formula.{Term, Atom, Goal, Clause}
use Rattle.harrop.specs.Bindings.{Bindings, replaced_atom, same_atom}
use Rattle.harrop.specs.Place.{AtHand, Hand, Plain, listed, allowed}
use Rattle.packet.specs.declared.Word.{Word}
use Rattle.packet.specs.declared.Word.TheVariants as W
use Rattle.packet.specs.Written.{goal_sexp, atom_sexp}
use Rattle.packet.specs.Barred.{goal_ok, atom_ok}
use Rattle.room.specs.Layout.{levels, stack}
use Rattle.room.specs.Frame.{bindings_in}
use Rattle.room.specs.Spot.{bindings_at}
use Rattle.room.specs.Where.{Live, Kept, Framed}
use Rattle.room.specs.Files.{Files}
use Rattle.room.specs.declared.Spot.{Spot}
use Rattle.room.specs.declared.Where.{Where}
use Rattle.heads.specs.Heads.{goal_word}
use Rattle.keys.specs.Key.{atom_key, predicate_key}
use Rattle.mentions.specs.Open.{unset, is_open, asked, Becomes}
use Rattle.mentions.specs.Mentions.{mentions_goal}
use Rattle.unset.specs.declared.Likeness.{Likeness}
use Rattle.unset.specs.declared.Likeness.TheVariants as L
use Rattle.proving.specs.Provable as provable
use Rattle.proving.specs.Stock.{Stock, Keeps}
use Rattle.proving.specs.Proving.{Ready, Taken, Answers, passes}
use Rattle.proving.specs.Parts.{variable_word, is_plain, quantifiers, core, head_of, with_head}
use Rattle.proving.specs.Chain.{chain, inside, headless}
use Rattle.proving.specs.Frames.{alls, unsets, set_to, Completes}
use Rattle.proving.specs.First.{FirstFrame, Forcing, Located}
use Rattle.proving.specs.declared.plain.Parts.{Parts}

-- a goal that is looked at: it holds no unset variable and, if variable v is asked for as well, holds that one
pub record Due (own : ℕ) (bs : Bindings) (also : Bool) (v : ℕ) (g : Goal Plain) : Type 0 where
  pub whole : mentions_goal (asked own bs false v) g ≡ false
  pub new : also ≡ true → mentions_goal (asked own bs true v) g ≡ true

-- the goals of a body, one by one: each that is looked at has a proof within what is left for it
module _ (us : List Term) (o : List Plain) (c : Hand Plain) (own : ℕ) (bs : Bindings) (also : Bool) (v : ℕ) where
  abbrev pub LookedOne : ℕ → Goal Plain → Type 0
  LookedOne h g = Due own bs also v g → provable.provable (listed us) h o c bs g ≡ true

  abbrev pub Looked : ℕ → Goal Plain → Type 0
  Looked h Goal.top = LookedOne h Goal.top
  Looked h (Goal.atom a) = LookedOne h (Goal.atom a)
  Looked zero (Goal.and g g') = ⊥
  Looked (suc h) (Goal.and g g') = Looked h g × Looked h g'
  Looked h (Goal.or g g') = LookedOne h (Goal.or g g')
  Looked h (Goal.some q g) = LookedOne h (Goal.some q g)
  Looked h (Goal.all q g) = LookedOne h (Goal.all q g)
  Looked h (Goal.imp d g) = LookedOne h (Goal.imp d g)

-- a yes says that those have a proof, a no that the body has none, whatever the frame becomes
pub record Looks (us : List Term) (o : List Plain) (c : Hand Plain) (own : ℕ) (bs : Bindings) (also : Bool) (v h : ℕ) (g : Goal Plain) (r : Bool) : Type 0 where
  pub yes : r ≡ true → Looked us o c own bs also v h g
  pub no : r ≡ false → (ds : Bindings) → Completes us o own bs ds → provable.provable (listed us) h o c ds g ≡ false

-- and what is relied on is kept
pub record Seen (right : List ℕ → Type 0) (supposed top : ℕ) (room after : List ℕ) (us : List Term) (o : List Plain) (c : Hand Plain) (own : ℕ) (bs : Bindings) (also : Bool) (v h : ℕ) (g : Goal Plain) (r : Bool) : Type 0 where
  pub kept : Keeps right supposed top room after
  pub says : Looks us o c own bs also v h g r

-- whether the goal of a place is looked at: a yes says that it holds no unset variable, a no that it is not
pub record IsDue (own : ℕ) (bs : Bindings) (also : Bool) (v : ℕ) (g : Goal Plain) (r : Bool) : Type 0 where
  pub yes : r ≡ true → mentions_goal (asked own bs false v) g ≡ false
  pub no : r ≡ false → Due own bs also v g → ⊥

abbrev pub Dues : Files → List ℕ → Where → ℕ → Bool → ℕ → Bool → Type 0
Dues f room w own also v r =
    (ds : List (Clause Plain)) (us : List Term) (height : ℕ) (o : List Plain) (c : Hand Plain) (bs : Bindings) (g : Goal Plain) →
    Ready f room ds us w height o c bs g →
    IsDue own bs also v g r

abbrev pub Looking : Files → List ℕ → List ℕ → Where → ℕ → Bool → ℕ → ℕ → Bool → Type 0
Looking f room after w own also v height r =
    (ds : List (Clause Plain)) (us : List Term) (o : List Plain) (c : Hand Plain) (bs : Bindings) (g : Goal Plain) →
    Ready f room ds us w height o c bs g →
    Seen (Stock f ds us w.supposed c) w.supposed w.top room after us o c own bs also v height g r

-- the same of a goal with a word, and of one that is no `and`
abbrev pub LookingAs : Word → Files → List ℕ → List ℕ → Where → ℕ → Bool → ℕ → ℕ → Bool → Type 0
LookingAs word f room after w own also v height r =
    (ds : List (Clause Plain)) (us : List Term) (o : List Plain) (c : Hand Plain) (bs : Bindings) (g : Goal Plain) →
    goal_word g ≡ word →
    Ready f room ds us w height o c bs g →
    Seen (Stock f ds us w.supposed c) w.supposed w.top room after us o c own bs also v height g r

abbrev pub LookingOne : Files → List ℕ → List ℕ → Where → ℕ → Bool → ℕ → ℕ → Bool → Type 0
LookingOne f room after w own also v height r =
    (ds : List (Clause Plain)) (us : List Term) (o : List Plain) (c : Hand Plain) (bs : Bindings) (g : Goal Plain) →
    (goal_word g ≡ W.And → ⊥) →
    Ready f room ds us w height o c bs g →
    Seen (Stock f ds us w.supposed c) w.supposed w.top room after us o c own bs also v height g r

-- the parts of a clause at their spots, in one frame: its head, if it is to be compared, and its body if it has one
pub record HeadIn (f : Files) (room : List ℕ) (p : Parts) (b : Atom) (fr : Bindings) : Type 0 where
  pub above : stack ≤ p.head.base
  pub holds : bindings_at room p.head ≡ fr
  pub shallow : p.head.count ≤ levels
  pub framed : p.headed ≡ true → Framed f room p.head (p.head.base + p.head.count) (atom_sexp b) fr
  pub scoped : p.headed ≡ true → atom_ok (length fr) b ≡ true

pub record BodyIn (f : Files) (room : List ℕ) (p : Parts) (g : Goal Plain) (fr : Bindings) : Type 0 where
  pub framed : Framed f room p.goal (p.head.base + p.head.count) (goal_sexp g) fr
  pub scoped : goal_ok (length fr) g ≡ true
  pub base : p.goal.base ≡ p.head.base
  pub count : p.goal.count ≡ p.head.count

abbrev pub PartsIn : Files → List ℕ → Parts → Clause Plain → Bindings → Type 0
PartsIn f room p (Clause.atom_d b) fr = (p.body ≡ false) × HeadIn f room p b fr
PartsIn f room p (Clause.imp_d g b) fr = (p.body ≡ true) × HeadIn f room p b fr × BodyIn f room p g fr
PartsIn f room p (Clause.all_d q d) fr = ⊥
PartsIn f room p (Clause.and_d d e) fr = ⊥

-- where the clause's own variables begin
abbrev pub floor : Parts → ℕ
floor p = p.head.base + (p.head.count - p.own)

-- where such a clause is searched: the place of the atom, which the head is compared with, and the parts with a frame that reaches at most so far above the stack.
-- Where there is no head to compare the place may be that of another goal
pub record Filling (f : Files) (room : List ℕ) (ds : List (Clause Plain)) (us : List Term) (w : Where) (p : Parts) (left : ℕ) (o : List Plain) (c : Hand Plain) (bs : Bindings) (a : Atom) (e : Clause Plain) (fr : Bindings) : Type 0 where
  pub asked : Goal Plain
  pub ready : Ready f room ds us w (suc left) o c bs asked
  pub atom : p.headed ≡ true → asked ≡ Goal.atom a
  pub parts : PartsIn f room p e fr
  pub own : p.own ≤ p.head.count
  pub fresh : w.top ≤ floor p
  pub reach : p.head.base + p.head.count ≤ w.top + levels

-- the head is the atom, whatever a frame becomes; and this of a head that is not to be compared
abbrev pub HeadIs : List Term → ℕ → Bindings → Atom → Clause Plain → Bindings → Type 0
HeadIs us own bs a e fr = (es : Bindings) → Becomes us own fr es → same_atom (replaced_atom us es (head_of e)) (replaced_atom us bs a) ≡ true

abbrev pub HeadStays : List Term → Parts → Bindings → Atom → Clause Plain → Bindings → Type 0
HeadStays us p bs a e fr = p.headed ≡ false → HeadIs us p.own bs a e fr

-- the first variables of a frame unset, and nothing else touched
pub record Unsets (room after : List ℕ) (x : Spot) (own : ℕ) : Type 0 where
  pub long : length after ≡ length room
  pub holds : own ≤ x.count → x.base + x.count ≤ length room → bindings_at after x ≡ unsets own (bindings_in room x.base (x.count - own))
  pub kept : own ≤ x.count → x.base + x.count ≤ length room → (i : ℕ) → i < x.base + (x.count - own) → get_or after i 0 ≡ get_or room i 0
  pub above : own ≤ x.count → x.base + x.count ≤ length room → (i : ℕ) → x.base + x.count ≤ i → get_or after i 0 ≡ get_or room i 0

-- what is said of a frame: it can be completed so that the path ends well, or it cannot
pub record Fillable (us : List Term) (left : ℕ) (o : List Plain) (c : Hand Plain) (bs : Bindings) (a : Atom) (e : Clause Plain) (m : ℕ) (fr : Bindings) (r : Bool) : Type 0 where
  pub yes : r ≡ true → (ds : Bindings) × Completes us o m fr ds × (passes us left o c bs a e ds ≡ true)
  pub no : r ≡ false → (ds : Bindings) → Completes us o m fr ds → passes us left o c bs a e ds ≡ false

-- a no says that the head cannot become the atom, whatever the frame becomes
abbrev pub MayFit : Files → List ℕ → Where → Parts → Bool → Type 0
MayFit f room w p r =
    (ds : List (Clause Plain)) (us : List Term) (left : ℕ) (o : List Plain) (c : Hand Plain) (bs : Bindings) (a : Atom) (e : Clause Plain) (fr : Bindings) →
    Filling f room ds us w p left o c bs a e fr → r ≡ false →
    Fillable us left o c bs a e p.own fr false

-- whether the head is the atom, where one that is not to be compared is
abbrev pub Fits : Files → List ℕ → Where → Parts → Bool → Type 0
Fits f room w p r =
    (ds : List (Clause Plain)) (us : List Term) (left : ℕ) (o : List Plain) (c : Hand Plain) (bs : Bindings) (a : Atom) (e : Clause Plain) (fr : Bindings) →
    Filling f room ds us w p left o c bs a e fr → HeadStays us p bs a e fr →
    r ≡ same_atom (replaced_atom us fr (head_of e)) (replaced_atom us bs a)

-- the frame in which what the atom forces is set, and nothing else: where only what is forced was set before, only that is set then; what it may become the frame before may become; whatever is said of it holds of the frame before; and something is known of it
pub record Onward (f : Files) (after : List ℕ) (ds : List (Clause Plain)) (us : List Term) (w : Where) (p : Parts) (left : ℕ) (o : List Plain) (c : Hand Plain) (bs : Bindings) (a : Atom) (e : Clause Plain) (fr : Bindings) (known : Bindings → Type 0) : Type 0 where
  pub frame : Bindings
  pub filling : Filling f after ds us w p left o c bs a e frame
  pub forcing : (around : Bindings) → Forcing us o p.own (passes us left o c bs a e) around fr → Forcing us o p.own (passes us left o c bs a e) around frame
  pub less : (es : Bindings) → Becomes us p.own frame es → Becomes us p.own fr es
  pub back : (s : Bool) → Fillable us left o c bs a e p.own frame s → Fillable us left o c bs a e p.own fr s
  pub is : known frame

-- whether nothing makes the two the same, and whether everything does
abbrev pub is_never : Likeness → Bool
is_never L.Never = true
is_never L.Open = false
is_never L.Same = false

abbrev pub is_same : Likeness → Bool
is_same L.Never = false
is_same L.Open = false
is_same L.Same = true

-- what two parts of head and atom leave: such a frame, of which something is known where they are the same whatever it becomes; or nothing completes the frame before
pub record Settled (f : Files) (after : List ℕ) (ds : List (Clause Plain)) (us : List Term) (w : Where) (p : Parts) (left : ℕ) (o : List Plain) (c : Hand Plain) (bs : Bindings) (a : Atom) (e : Clause Plain) (fr : Bindings) (same : Bindings → Type 0) (r : Likeness) : Type 0 where
  pub yes : is_never r ≡ false → Onward f after ds us w p left o c bs a e fr (λ x. is_same r ≡ true → same x)
  pub no : is_never r ≡ true → Fillable us left o c bs a e p.own fr false

-- by a head that is to be compared
abbrev pub Settling : Files → List ℕ → List ℕ → Where → Parts → Likeness → Type 0
Settling f room after w p r =
    (ds : List (Clause Plain)) (us : List Term) (left : ℕ) (o : List Plain) (c : Hand Plain) (bs : Bindings) (a : Atom) (e : Clause Plain) (fr : Bindings) →
    Filling f room ds us w p left o c bs a e fr → p.headed ≡ true →
    Keeps (Stock f ds us w.supposed c) w.supposed (floor p) room after × Settled f after ds us w p left o c bs a e fr (HeadIs us p.own bs a e) r

-- and by none as well: what is left to be searched are the parts, whose head is the atom if it is not to be compared any more
abbrev pub Meets : Files → List ℕ → List (Clause Plain) → List Term → Where → Parts → ℕ → List Plain → Hand Plain → Bindings → Atom → Clause Plain → Bindings → Option Parts → Type 0
Meets f after ds us w p left o c bs a e fr None = Fillable us left o c bs a e p.own fr false
Meets f after ds us w p left o c bs a e fr (Some q) = (headed : Bool) × (q ≡ with_head p headed) × Onward f after ds us w (with_head p headed) left o c bs a e fr (HeadStays us (with_head p headed) bs a e)

abbrev pub Meeting : Files → List ℕ → List ℕ → Where → Parts → Option Parts → Type 0
Meeting f room after w p r =
    (ds : List (Clause Plain)) (us : List Term) (left : ℕ) (o : List Plain) (c : Hand Plain) (bs : Bindings) (a : Atom) (e : Clause Plain) (fr : Bindings) →
    Filling f room ds us w p left o c bs a e fr → HeadStays us p bs a e fr →
    Keeps (Stock f ds us w.supposed c) w.supposed (floor p) room after × Meets f after ds us w p left o c bs a e fr r

-- all goals of the body that hold no unset variable have a proof
abbrev pub LookedAll : List Term → ℕ → List Plain → Hand Plain → ℕ → Clause Plain → Bindings → Type 0
LookedAll us left o c own (Clause.atom_d b) fr = Unit {0}
LookedAll us left o c own (Clause.imp_d g b) fr = Looked us o c own fr false 0 left g
LookedAll us left o c own (Clause.all_d q d) fr = Unit {0}
LookedAll us left o c own (Clause.and_d d e) fr = Unit {0}

-- the same of those that variable v was missing in
abbrev pub LookedNew : List Term → ℕ → List Plain → Hand Plain → ℕ → Bool → ℕ → Clause Plain → Bindings → Type 0
LookedNew us left o c own also v (Clause.atom_d b) fr = Unit {0}
LookedNew us left o c own also v (Clause.imp_d g b) fr = Looked us o c own fr also v left g
LookedNew us left o c own also v (Clause.all_d q d) fr = Unit {0}
LookedNew us left o c own also v (Clause.and_d d e) fr = Unit {0}

-- what is known of a frame on the way: those goals have a proof, and a head that is not to be compared is the atom
pub record SoFar (us : List Term) (left : ℕ) (o : List Plain) (c : Hand Plain) (bs : Bindings) (a : Atom) (p : Parts) (e : Clause Plain) (fr : Bindings) : Type 0 where
  pub looked : LookedAll us left o c p.own e fr
  pub head : HeadStays us p bs a e fr

-- the body of the clause looked at
pub record BodySeen (right : List ℕ → Type 0) (w : Where) (p : Parts) (left : ℕ) (room after : List ℕ) (us : List Term) (o : List Plain) (c : Hand Plain) (bs : Bindings) (a : Atom) (also : Bool) (v : ℕ) (e : Clause Plain) (fr : Bindings) (r : Bool) : Type 0 where
  pub kept : Keeps right w.supposed (p.head.base + p.head.count) room after
  pub yes : r ≡ true → LookedNew us left o c p.own also v e fr
  pub no : r ≡ false → Fillable us left o c bs a e p.own fr false

abbrev pub LookingBody : Files → List ℕ → List ℕ → Where → Parts → Bool → ℕ → ℕ → Bool → Type 0
LookingBody f room after w p also v left r =
    (ds : List (Clause Plain)) (us : List Term) (o : List Plain) (c : Hand Plain) (bs : Bindings) (a : Atom) (e : Clause Plain) (fr : Bindings) →
    Filling f room ds us w p left o c bs a e fr →
    BodySeen (Stock f ds us w.supposed c) w p left room after us o c bs a also v e fr r

-- what is said of a frame in which only the first k variables may be unset: the frame that is left is its first completion, and does; or none does
pub record Filled (us : List Term) (left : ℕ) (o : List Plain) (c : Hand Plain) (bs : Bindings) (a : Atom) (e : Clause Plain) (m k : ℕ) (fr end : Bindings) (r : Bool) : Type 0 where
  pub yes : r ≡ true → FirstFrame us o m (passes us left o c bs a e) k fr end × (passes us left o c bs a e end ≡ true)
  pub no : r ≡ false → (ds : Bindings) → Completes us o m fr ds → passes us left o c bs a e ds ≡ false

-- what a search of frames leaves: what is below the clause's own variables is kept and, after a no, the frame as well
pub record Leaves (right : List ℕ → Type 0) (w : Where) (p : Parts) (room after : List ℕ) (r : Bool) : Type 0 where
  pub kept : Keeps right w.supposed (floor p) room after
  pub whole : r ≡ false → Kept w.supposed (p.head.base + p.head.count) room after

-- the search of the frames from a frame on, where only the first k variables may be unset
abbrev pub FillingFrom : Files → List ℕ → List ℕ → Where → Parts → ℕ → ℕ → Bool → Type 0
FillingFrom f room after w p k left r =
    (ds : List (Clause Plain)) (us : List Term) (o : List Plain) (c : Hand Plain) (bs : Bindings) (a : Atom) (e : Clause Plain) (fr : Bindings) →
    Filling f room ds us w p left o c bs a e fr → k ≤ p.own → ((i : ℕ) → k ≤ i → is_open p.own fr i ≡ false) → SoFar us left o c bs a p e fr →
    Leaves (Stock f ds us w.supposed c) w p room after r × Filled us left o c bs a e p.own k fr (bindings_at after p.head) r

-- variable v, which is unset, with each candidate
abbrev pub FillingEach : Files → List ℕ → List ℕ → Where → Parts → ℕ → ℕ → Bool → Type 0
FillingEach f room after w p v left r =
    (ds : List (Clause Plain)) (us : List Term) (o : List Plain) (c : Hand Plain) (bs : Bindings) (a : Atom) (e : Clause Plain) (fr : Bindings) →
    Filling f room ds us w p left o c bs a e fr → is_open p.own fr v ≡ true → ((i : ℕ) → v < i → is_open p.own fr i ≡ false) → SoFar us left o c bs a p e fr →
    Leaves (Stock f ds us w.supposed c) w p room after r × Filled us left o c bs a e p.own (suc v) fr (bindings_at after p.head) r

-- with candidate i, whatever stands there in the room; after a no, all but the variable's own word is as it was
pub record LeavesBut (right : List ℕ → Type 0) (w : Where) (p : Parts) (v : ℕ) (room after : List ℕ) (r : Bool) : Type 0 where
  pub kept : Keeps right w.supposed (floor p) room after
  pub whole : r ≡ false → (i : ℕ) → Live w.supposed (p.head.base + p.head.count) i → (i ≡ variable_word p.head v → ⊥) → get_or after i 0 ≡ get_or room i 0

abbrev pub Fails : List Term → ℕ → List Plain → Hand Plain → Bindings → Atom → Clause Plain → ℕ → ℕ → ℕ → Bindings → Type 0
Fails us left o c bs a e m v i fr = allowed (listed us) o tt i ≡ true → (ds : Bindings) → Completes us o m (set_to v (Candidate i) fr) ds → passes us left o c bs a e ds ≡ false

pub record FilledWith (us : List Term) (left : ℕ) (o : List Plain) (c : Hand Plain) (bs : Bindings) (a : Atom) (e : Clause Plain) (m v i : ℕ) (fr end : Bindings) (r : Bool) : Type 0 where
  pub yes : r ≡ true → (allowed (listed us) o tt i ≡ true) × FirstFrame us o m (passes us left o c bs a e) v (set_to v (Candidate i) fr) end × (passes us left o c bs a e end ≡ true)
  pub no : r ≡ false → Fails us left o c bs a e m v i fr

abbrev pub FillingWith : Files → List ℕ → List ℕ → Where → Parts → ℕ → ℕ → ℕ → Bool → Type 0
FillingWith f room after w p v i left r =
    (ds : List (Clause Plain)) (us : List Term) (o : List Plain) (c : Hand Plain) (bs : Bindings) (a : Atom) (e : Clause Plain) (fr : Bindings) →
    Filling f room ds us w p left o c bs a e fr → v < p.own → ((j : ℕ) → v < j → is_open p.own fr j ≡ false) → SoFar us left o c bs a p e (set_to v unset fr) →
    LeavesBut (Stock f ds us w.supposed c) w p v room after r × FilledWith us left o c bs a e p.own v i fr (bindings_at after p.head) r

-- the whole clause, whose own variables are nothing yet: its parts stand, and the frame of the others is below them
pub record Starting (f : Files) (room : List ℕ) (ds : List (Clause Plain)) (us : List Term) (w : Where) (p : Parts) (left : ℕ) (o : List Plain) (c : Hand Plain) (bs : Bindings) (a : Atom) (e : Clause Plain) (bs' : Bindings) : Type 0 where
  pub asked : Goal Plain
  pub ready : Ready f room ds us w (suc left) o c bs asked
  pub atom : p.headed ≡ true → asked ≡ Goal.atom a
  pub same : p.headed ≡ false → (es : Bindings) → same_atom (replaced_atom us es (head_of e)) (replaced_atom us bs a) ≡ true
  pub holds : bindings_in room p.head.base (p.head.count - p.own) ≡ bs'
  pub own : p.own ≤ p.head.count
  pub above : stack ≤ p.head.base
  pub parts : (after : List ℕ) → bindings_at after p.head ≡ unsets p.own bs' → PartsIn f after p e (unsets p.own bs')
  pub fresh : w.top ≤ floor p
  pub reach : p.head.base + p.head.count ≤ w.top + levels

abbrev pub PassingParts : Files → List ℕ → List ℕ → Where → Parts → ℕ → Bool → Type 0
PassingParts f room after w p left r =
    (ds : List (Clause Plain)) (us : List Term) (o : List Plain) (c : Hand Plain) (bs : Bindings) (a : Atom) (e : Clause Plain) (bs' : Bindings) →
    Starting f room ds us w p left o c bs a e bs' →
    Answers (Stock f ds us w.supposed c) w.supposed (floor p) room after (passes us left o c bs a (alls p.own e) bs') r × (r ≡ true → Located us left o c bs a p.own e bs' after (floor p))

-- what a yes leaves behind the frame of a clause at a spot, if the clause has no `and` on the way to its head: the numbers of the path
abbrev pub Locating : Files → List ℕ → List ℕ → Where → Spot → ℕ → Bool → Type 0
Locating f room after w x left r =
    (ds : List (Clause Plain)) (us : List Term) (o : List Plain) (c : Hand Plain) (bs : Bindings) (a : Atom) (d : Clause Plain) (bs' : Bindings) →
    Taken f room ds us w x left o c bs a d bs' → is_plain d ≡ true → r ≡ true →
    Located us left o c bs a (quantifiers d) (core d) bs' after (x.base + x.count)

-- and behind that of clause k, on top of the stack
abbrev pub LocatedAt : List Term → ℕ → List Plain → Hand Plain → Bindings → Atom → ℕ → List ℕ → ℕ → Type 0
LocatedAt us left o c bs a top after k =
    (h : AtHand Plain) → get_elem? c k ≡ some h → is_plain h.clause ≡ true →
    Located us left o c bs a (quantifiers h.clause) (core h.clause) h.bindings after (top + length h.bindings)

abbrev pub LocatingAt : Files → List ℕ → List ℕ → Where → ℕ → ℕ → Type 0
LocatingAt f room after w left k =
    (ds : List (Clause Plain)) (us : List Term) (o : List Plain) (c : Hand Plain) (bs : Bindings) (a : Atom) →
    Ready f room ds us w (suc left) o c bs (Goal.atom a) →
    LocatedAt us left o c bs a w.top after k

-- and behind that of a `some`: the goal inside the chain is the body of a clause that has no head to compare
abbrev pub LocatingSome : Files → List ℕ → List ℕ → Where → ℕ → Type 0
LocatingSome f room after w left =
    (ds : List (Clause Plain)) (us : List Term) (o : List Plain) (c : Hand Plain) (bs : Bindings) (g : Goal Plain) →
    goal_word g ≡ W.Some →
    Ready f room ds us w (suc left) o c bs g →
    Located us (suc left - chain g) o c bs headless (chain g) (Clause.imp_d (inside g) headless) bs after w.top

-- the same where the numbers of the atom and of its predicate are known
abbrev pub LocatingFirst : Files → List ℕ → List ℕ → Where → ℕ → ℕ → ℕ → Option ℕ → Type 0
LocatingFirst f room after w predicate key left r =
    (k : ℕ) → r ≡ Some k →
    (ds : List (Clause Plain)) (us : List Term) (o : List Plain) (c : Hand Plain) (bs : Bindings) (a : Atom) →
    Ready f room ds us w (suc left) o c bs (Goal.atom a) →
    predicate ≡ predicate_key a → key ≡ atom_key (replaced_atom us bs a) →
    LocatedAt us left o c bs a w.top after k
