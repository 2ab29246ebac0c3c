-- A place as the work room and the files' bytes show it (document 01, "When a strip fits"): the goal's spot with its bindings, the clauses at hand, the open parameters.
-- The places meant are those of crate harrop. Checker and search both walk from place to place; what a place relies on is kept until the walk is back at it.
use Rattle.std.specs.Prelude.{ℕ, ◌+◌, ◌≤◌, ◌<◌, min, ◌≡◌, true, List, [], length, get_or}
use Rattle.std.proofs.Math.Option.{some}
use Rattle.std.proofs.Math.ListN.{get_elem?}
use Rattle.harrop.specs.Formula.{Term, Goal, Clause}
use Rattle.harrop.specs.Bindings.{Bindings}
use Rattle.harrop.specs.Place.{AtHand, Hand, Plain}
use Rattle.sexp.specs.Sexp.{Sexp, Stands, nesting}
use Rattle.packet.specs.Written.{goal_sexp, clause_sexp}
use Rattle.packet.specs.Barred.{goal_ok, clause_ok}
use Rattle.packet.specs.File.{most_bytes}
use Rattle.room.specs.Layout.{levels, supposed_word, stack}
use Rattle.room.specs.Spot.{bindings_at, supposed_in}
use Rattle.room.specs.Files.{Files, file_of}
use Rattle.room.specs.Table.{RulesIn, CandidatesIn}
use Rattle.room.specs.declared.Spot.{Spot}
use Rattle.room.specs.declared.Where.{Where}

-- the words that a place with so many supposed clauses and this top of the stack relies on
pub data Live (supposed top i : ℕ) : Type 0 where
  low : i < supposed_word supposed → Live supposed top i
  high : stack ≤ i → i < top → Live supposed top i

-- they are as they were
abbrev pub Kept : ℕ → ℕ → List ℕ → List ℕ → Type 0
Kept supposed top room after = (i : ℕ) → Live supposed top i → get_or after i 0 ≡ get_or room i 0

-- a formula at a spot: its bytes, and its variables in a frame below the top. Each quantifier passed is a level of its file, so frame and formula are 64 at most
pub record Framed (f : Files) (room : List ℕ) (x : Spot) (top : ℕ) (e : Sexp) (bs : Bindings) : Type 0 where
  pub stands : Stands (file_of f x.source) x.at e
  pub above : stack ≤ x.base
  pub below : x.base + x.count ≤ top
  pub holds : bindings_at room x ≡ bs
  pub shallow : x.count + nesting e ≤ levels

-- the clauses at hand: the rules, then those that are supposed. Each formula is one that refusal 5 lets pass: its variables are bound, and it holds no parameter
pub record HandIn (f : Files) (room : List ℕ) (ds : List (Clause Plain)) (supposed top : ℕ) (c : Hand Plain) : Type 0 where
  pub number : length c ≡ length ds + supposed
  pub rule : (k : ℕ) (h : AtHand Plain) → k < length ds → get_elem? c k ≡ some h → (h.bindings ≡ []) × (get_elem? ds k ≡ some h.clause)
  pub suppose : (j : ℕ) (h : AtHand Plain) → get_elem? c (length ds + j) ≡ some h → Framed f room (supposed_in room j) top (clause_sexp h.clause) h.bindings
  pub scoped : (j : ℕ) (h : AtHand Plain) → get_elem? c (length ds + j) ≡ some h → clause_ok (length h.bindings) h.clause ≡ true

-- the packet's rules and candidates in the files and in the room's tables
pub record Booked (f : Files) (room : List ℕ) (ds : List (Clause Plain)) (us : List Term) : Type 0 where
  pub rules : RulesIn room f.rules ds
  pub shallow : (k : ℕ) (d : Clause Plain) → get_elem? ds k ≡ some d → nesting (clause_sexp d) ≤ levels
  pub scoped : (k : ℕ) (d : Clause Plain) → get_elem? ds k ≡ some d → clause_ok 0 d ≡ true
  pub candidates : CandidatesIn room f.terms us
  pub rules-small : length f.rules ≤ most_bytes
  pub goal-small : length f.goal ≤ most_bytes
  pub terms-small : length f.terms ≤ most_bytes

-- a place as the walk has it: goal, bindings, clauses at hand and open parameters
pub record Means (f : Files) (room : List ℕ) (ds : List (Clause Plain)) (us : List Term) (w : Where) (o : List Plain) (c : Hand Plain) (bs : Bindings) (g : Goal Plain) : Type 0 where
  pub booked : Booked f room ds us
  pub framed : Framed f room w.goal w.top (goal_sexp g) bs
  pub scoped : goal_ok (length bs) g ≡ true
  pub tight : w.goal.base + w.goal.count ≡ w.top
  pub openly : length o ≡ w.parameters
  pub hand : HandIn f room ds w.supposed w.top c

-- a sum that no packet makes too large for a machine word
abbrev pub plus : ℕ → ℕ → ℕ
plus a b = min (a + b) 18446744073709551615

-- the spot of a part of what stands at a spot, n bytes further on
abbrev pub further : Spot → ℕ → Spot
further x n = record { source = x.source; at = plus x.at n; base = x.base; count = x.count }

-- the place of a part of the goal, with the same clauses, parameters and bindings
abbrev pub within : Where → ℕ → Where
within w n = record { goal = further w.goal n; supposed = w.supposed; parameters = w.parameters; top = w.top }

-- the same with one variable more, which is on top of the stack
abbrev pub bound : Where → ℕ → ℕ → Where
bound w n p = record {
  goal = record { source = w.goal.source; at = plus w.goal.at n; base = w.goal.base; count = plus w.goal.count 1 };
  supposed = w.supposed;
  parameters = p;
  top = plus w.top 1;
}

-- the place of a part under one clause more
abbrev pub supposes : Where → ℕ → Where
supposes w n = record { goal = further w.goal n; supposed = plus w.supposed 1; parameters = w.parameters; top = w.top }
