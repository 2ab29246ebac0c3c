-- The one head of a clause, and the table of rules' heads in the room (document 02, Three): the number of a head's predicate in 256 words, where the head starts in the 256 words after them. They begin where the numbers of crate keys end.
use Rattle.std.specs.Prelude.{ℕ, ◌+◌, ◌≤◌, ◌<◌, ◌≡◌, List, length, get_or}
use Rattle.std.specs.Prelude.{Some, None}
use Rattle.std.specs.Prelude as Std
use Rattle.std.proofs.Math.Option.{Option, none, some}
use Rattle.std.proofs.Math.ListN.{get_elem?}
use Rattle.harrop.specs.Formula.{Term, Atom, Clause}
use Rattle.harrop.specs.Place.{Plain}
use Rattle.sexp.specs.Sexp.{Stands, nesting}
use Rattle.packet.specs.Written.{atom_sexp, clause_sexp}
use Rattle.packet.specs.File.{most_bytes}
use Rattle.room.specs.Layout.{words, levels, rule_word}
use Rattle.room.specs.Frame.{held}
use Rattle.room.specs.Where.{Booked}
use Rattle.room.specs.Files.{files_of}
use Rattle.room.specs.declared.Source.TheVariants as Source
use Rattle.room.specs.declared.Spot.{Spot}
use Rattle.keys.specs.Key.{predicate_key}
use Rattle.keys.specs.Chains.{Within}

-- the head of a clause; none where an `and` is on the way to its heads
abbrev pub head_of : Clause Plain → Option Atom
head_of (Clause.atom_d b) = some b
head_of (Clause.imp_d g b) = some b
head_of (Clause.all_d q d) = head_of d
head_of (Clause.and_d c d) = none

-- a spot of the rule file in no frame
abbrev pub in_rules : ℕ → Spot
in_rules at = record { source = Source.Rules; at = at; base = 0; count = 0 }

-- where the number of the predicate of rule k's head is kept, where the head's offset is, and the first word after both
abbrev pub predicate_word : ℕ → ℕ
predicate_word k = 3712 + k

abbrev pub head_word : ℕ → ℕ
head_word k = 3968 + k

abbrev pub heads_end : ℕ
heads_end = 4224

-- what the room says of rule k's head; 0 is no predicate's number
abbrev pub HeadIn : List ℕ → List ℕ → ℕ → Option Atom → Type 0
HeadIn room rules k none = get_or room (predicate_word k) 0 ≡ 0
HeadIn room rules k (some b) = (get_or room (predicate_word k) 0 ≡ predicate_key b) × Stands rules (get_or room (head_word k) 0) (atom_sexp b)

-- the table is right
abbrev pub HeadsIn : List ℕ → List ℕ → List (Clause Plain) → Type 0
HeadsIn room rules ds = (k : ℕ) (d : Clause Plain) → get_elem? ds k ≡ some d → HeadIn room rules k (head_of d)

-- the answer is where the head of the clause at an offset stands that nests at most so deep
abbrev pub HeadIs : List ℕ → Std.Option ℕ → Option Atom → Type 0
HeadIs s None none = Unit {0}
HeadIs s None (some b) = ⊥
HeadIs s (Some i) none = ⊥
HeadIs s (Some i) (some b) = Stands s i (atom_sexp b)

abbrev pub HeadAt : List ℕ → ℕ → ℕ → Std.Option ℕ → Type 0
HeadAt s at nest r =
    (d : Clause Plain) → Stands s at (clause_sexp d) → nesting (clause_sexp d) ≤ levels → nesting (clause_sexp d) ≤ nest → length s ≤ most_bytes → HeadIs s r (head_of d)

-- what is kept of a head: the number of its predicate, and where it stands
abbrev pub PredicateOf : List ℕ → Std.Option ℕ → ℕ → Type 0
PredicateOf s None r = r ≡ 0
PredicateOf s (Some i) r = (b : Atom) → Stands s i (atom_sexp b) → nesting (atom_sexp b) ≤ levels → r ≡ predicate_key b

unfoldable pub place_of : Std.Option ℕ → ℕ
place_of None = 0
place_of (Some i) = held i

-- the heads of the first n rules are in the room
pub record HeadsDone (before after rules : List ℕ) (n : ℕ) : Type 0 where
  pub within : Within before after (predicate_word 0) heads_end
  pub right : heads_end ≤ length before → length rules ≤ most_bytes → (k : ℕ) → k < n → (d : Clause Plain) → Stands rules (get_or before (rule_word k) 0) (clause_sexp d) → nesting (clause_sexp d) ≤ levels
      → HeadIn after rules k (head_of d)

-- the table filled: nothing else of the room is written, and for a packet whose rules are in the room's table it is right
pub record HeadsFilled (before after rules : List ℕ) : Type 0 where
  pub within : Within before after (predicate_word 0) heads_end
  pub right : words ≤ length before → (goal terms : List ℕ) (ds : List (Clause Plain)) (us : List Term) → Booked (files_of rules goal terms) before ds us → HeadsIn after rules ds
