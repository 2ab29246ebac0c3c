-- What a place is in the work room, and what the walk down the strip says of it (document 01, "When a strip fits").
-- The places are those of crate harrop; here stands how the room and the files' bytes show one.
use Rattle.std.specs.Prelude.{ℕ, suc, ◌+◌, ◌≤◌, ◌<◌, ◌≡◌, List, ◌∷◌, length, Some, None, Result, Ok, Err, Option}
use Rattle.harrop.specs.Formula.{Term, Goal, Clause, Strip}
use Rattle.harrop.specs.Bindings.{Bindings}
use Rattle.harrop.specs.Place.{Hand, Plain, listed}
use Rattle.harrop.specs.Check.{Judged, Position, here, above, above_both, check}
use Rattle.sexp.specs.Sexp.{Stands, nesting}
use Rattle.packet.specs.Written.{strip_sexp}
use Rattle.packet.specs.Offset.{width, offset_of}
use Rattle.packet.specs.File.{most_bytes}
use Rattle.room.specs.Files.{Files}
use Rattle.room.specs.Layout.{words, levels, Enough}
pub use Rattle.room.specs.Where.{Live, Kept, Framed, HandIn, Booked, Means, plus, further, within, bound, supposes}
use Rattle.room.specs.declared.Where.{Where}
use Rattle.packet.specs.declared.Word.{Word}
use Rattle.uses.specs.Heads.{strip_word}
use Rattle.uses.specs.declared.Entered.{Entered}
use Rattle.uses.specs.declared.Entered.TheVariants as E
use Rattle.uses.specs.declared.Fit.{Fit}

-- a node fits with all its parts: it ends before an offset, with this height and so many nodes
abbrev pub fitting : ℕ → ℕ → ℕ → Result Fit ℕ
fitting next h n = Ok (record { next = next; height = h; nodes = n })

-- what the checker's definition says, in offsets of the strip file
abbrev pub outcome : ℕ → Strip → Judged → Result Fit ℕ
outcome at P (Judged.fits h n) = fitting (at + width (strip_sexp P)) h n
outcome at P (Judged.misfit pos) = Err (at + offset_of P pos)

-- what is sure of any outcome
abbrev pub Bounded : ℕ → ℕ → ℕ → Result Fit ℕ → Type 0
Bounded size at nest (Ok x) = (at + x.nodes ≤ x.next) × ((x.next ≤ size) × (x.height ≤ nest))
Bounded size at nest (Err o) = Unit {0}

-- one part of a node that fits: its place, where it stands in the strip, and what the checker's definition says of it
pub record Part (f : Files) (ss room : List ℕ) (ds : List (Clause Plain)) (us : List Term) (w w' : Where) (at start : ℕ) (P part : Strip) (i : ℕ) (judged : Judged) : Type 0 where
  pub goal : Goal Plain
  pub parameters : List Plain
  pub clauses : Hand Plain
  pub bindings : Bindings
  pub place : Means f room ds us w' parameters clauses bindings goal
  pub stands : Stands ss start (strip_sexp part)
  pub shallower : suc (nesting (strip_sexp part)) ≤ nesting (strip_sexp P)
  pub later : at < start
  pub supposes : w.supposed ≤ w'.supposed
  pub supposes-one : w'.supposed ≤ w.supposed + 1
  pub opens_one : w'.parameters ≤ w.parameters + 1
  pub higher : w.top ≤ w'.top
  pub room-left : w'.top ≤ w.top + levels
  pub says : judged ≡ check (listed us) part parameters clauses bindings goal
  pub offsets : (pos : Position) → at + offset_of P (i ∷ pos) ≡ start + offset_of part pos

-- what a node says at its place, its parts left to themselves
abbrev pub Told : Files → List ℕ → List ℕ → List (Clause Plain) → List Term → Where → ℕ → Strip → Judged → Option Entered → Type 0
Told f ss room ds us w at P j None = j ≡ here
Told f ss room ds us w at P j (Some (E.Leaf next)) = (j ≡ Judged.fits 1 1) × (next ≡ at + width (strip_sexp P))
Told f ss room ds us w at P j (Some (E.One start w')) =
    (part : Strip)
    × (k : Judged)
    × Part f ss room ds us w w' at start P part 0 k
    × (j ≡ above 0 k)
    × (at + width (strip_sexp P) ≡ start + width (strip_sexp part) + 1)
Told f ss room ds us w at P j (Some (E.Two start w' w'')) =
    (X : Strip)
    × (Y : Strip)
    × (k : Judged)
    × (m : Judged)
    × Part f ss room ds us w w' at start P X 0 k
    × Part f ss room ds us w w'' at (start + width (strip_sexp X)) P Y 1 m
    × (w''.supposed ≤ w'.supposed)
    × (w''.top ≤ w'.top)
    × (j ≡ above_both k m)
    × (at + width (strip_sexp P) ≡ start + width (strip_sexp X) + width (strip_sexp Y) + 1)

-- what is given where a node is judged: the place, the strip's node, and enough of the room
pub record Ready (f : Files) (ss room : List ℕ) (ds : List (Clause Plain)) (us : List Term) (w : Where) (at nest : ℕ) (P : Strip) (o : List Plain) (c : Hand Plain) (bs : Bindings) (g : Goal Plain) : Type 0 where
  pub place : Means f room ds us w o c bs g
  pub small : length ss ≤ most_bytes
  pub stands : Stands ss at (strip_sexp P)
  pub nests : nesting (strip_sexp P) ≤ nest
  pub enough : Enough w.top w.supposed w.parameters nest
  pub long : words ≤ length room

-- what a node's own judgement says, and that it keeps what the place relies on
pub record Enters (f : Files) (ss room after : List ℕ) (ds : List (Clause Plain)) (us : List Term) (w : Where) (at : ℕ) (P : Strip) (j : Judged) (r : Option Entered) : Type 0 where
  pub kept : Kept w.supposed w.top room after
  pub told : Told f ss after ds us w at P j r

-- what the walk says at a place
pub record Judges (room after : List ℕ) (w : Where) (at : ℕ) (P : Strip) (j : Judged) (r : Result Fit ℕ) : Type 0 where
  pub kept : Kept w.supposed w.top room after
  pub answer : r ≡ outcome at P j

-- the two contracts, for every packet and place that stand there
abbrev pub Entering : Files → List ℕ → List ℕ → List ℕ → ℕ → Where → ℕ → Option Entered → Type 0
Entering f ss room after at w nest r =
    (ds : List (Clause Plain)) (us : List Term) (P : Strip) (o : List Plain) (c : Hand Plain) (bs : Bindings) (g : Goal Plain) →
    Ready f ss room ds us w at nest P o c bs g →
    Enters f ss room after ds us w at P (check (listed us) P o c bs g) r

-- the first of them for nodes with one word
abbrev pub EnteringAs : Word → Files → List ℕ → List ℕ → List ℕ → ℕ → Where → ℕ → Option Entered → Type 0
EnteringAs word f ss room after at w nest r =
    (ds : List (Clause Plain)) (us : List Term) (P : Strip) (o : List Plain) (c : Hand Plain) (bs : Bindings) (g : Goal Plain) →
    strip_word P ≡ word →
    Ready f ss room ds us w at nest P o c bs g →
    Enters f ss room after ds us w at P (check (listed us) P o c bs g) r

abbrev pub Judging : Files → List ℕ → List ℕ → List ℕ → ℕ → Where → ℕ → Result Fit ℕ → Type 0
Judging f ss room after at w nest r =
    (ds : List (Clause Plain)) (us : List Term) (P : Strip) (o : List Plain) (c : Hand Plain) (bs : Bindings) (g : Goal Plain) →
    Ready f ss room ds us w at nest P o c bs g →
    Judges room after w at P (check (listed us) P o c bs g) r
