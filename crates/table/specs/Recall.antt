-- What is recalled from the table, and what keeping and forgetting do to it (document 02, Three). An entry is believed only after its atom was compared with the one asked for, variables replaced.
use Rattle.std.specs.Prelude.{ℕ, suc, ◌+◌, ◌%◌, ◌≤◌, ◌<◌, ◌≡◌, Bool, true, false, Option, Some, None, List, length, get_or}
use Rattle.equal.specs.Term.{SameAtoms}
use Rattle.room.specs.Files.{Files}
use Rattle.room.specs.declared.Spot.{Spot}
use Rattle.room.specs.declared.Where.{Where}
use Rattle.table.specs.Slots.{table_word, Slot, slot_spot, mark_of, parameters_of, failed_at, proved_at, choice_at, entered, Notes}

-- a slot of the table has the atom of a place, with its supposed clauses and parameters
pub record This (f : Files) (room : List ℕ) (w : Where) (at : ℕ) : Type 0 where
  pub first : table_word ≤ at
  pub inside : at + 16 ≤ length room
  pub supposed : mark_of room at ≡ w.supposed + 1
  pub parameters : parameters_of room at ≡ w.parameters
  pub same : SameAtoms f room (slot_spot room at) w.goal true

abbrev pub IsThis : Files → List ℕ → Where → ℕ → Bool → Type 0
IsThis f room w at r = r ≡ true → This f room w at

-- what is recalled is true
abbrev pub Says : Bool → Option Bool → Type 0
Says b None = Unit {0}
Says b (Some told) = b ≡ told

-- what a slot says of the atom of a place, if it has it: that it failed at this height or a greater, or that it is proved at this height or a smaller
abbrev pub Recalls : Files → List ℕ → Where → ℕ → ℕ → Option Bool → Type 0
Recalls f room w height at None = Unit {0}
Recalls f room w height at (Some false) = This f room w at × (0 < height) × (height ≤ failed_at room at)
Recalls f room w height at (Some true) = This f room w at × (0 < proved_at room at) × (proved_at room at ≤ height)

-- and by which clause at exactly this height: the slot has one more than its number
abbrev pub Chose : Files → List ℕ → Where → ℕ → ℕ → Option ℕ → Type 0
Chose f room w height at None = Unit {0}
Chose f room w height at (Some k) = This f room w at × (proved_at room at ≡ height) × (choice_at room at ≡ k + 1)

-- what a slot can hold: an atom with at most 8 bindings, which stand below the table, and numbers that fit a word
pub record Fitting (x : Spot) (supposed parameters height : ℕ) : Type 0 where
  pub few : x.count ≤ 8
  pub below : x.base + x.count ≤ table_word
  pub offset : x.at ≤ 4294967295
  pub clauses : supposed < 4294967295
  pub opened : parameters ≤ 4294967295
  pub high : height ≤ 4294967295

abbrev pub FitsSlot : Spot → ℕ → ℕ → ℕ → Bool → Type 0
FitsSlot x supposed parameters height r = r ≡ true → Fitting x supposed parameters height

-- the words below the table, and how many there are, are as they were
pub record TableOnly (before after : List ℕ) : Type 0 where
  pub long : length after ≡ length before
  pub below : (i : ℕ) → i < table_word → get_or after i 0 ≡ get_or before i 0

-- what is kept of the atom of a place: nothing; or an entry of the same atom stays and what is found is noted there, or the atom is entered first and what the slot held is gone
pub data Keeps (f : Files) (before after : List ℕ) (w : Where) (height at : ℕ) (found : Bool) (choice : ℕ) : Type 0 where
  nothing : after ≡ before → Keeps f before after w height at found choice
  again : This f before w at → Fitting w.goal w.supposed w.parameters height → Notes before after at height found choice w.top → Keeps f before after w height at found choice
  new : table_word ≤ at → at + 16 ≤ length before → Fitting w.goal w.supposed w.parameters height → Notes (entered before w.goal w.supposed w.parameters at) after at height found choice w.top → Keeps f before after w height at found choice

-- forgotten: no slot is of so many supposed clauses any more, and one that holds something still is as it was
pub record Forgets (before after : List ℕ) (supposed : ℕ) : Type 0 where
  pub long : length after ≡ length before
  pub gone : (at : ℕ) → Slot (length before) at → mark_of after at ≡ supposed + 1 → ⊥
  pub rest : (at s : ℕ) → Slot (length before) at → mark_of after at ≡ s + 1 → (k : ℕ) → k < 16 → get_or after (at + k) 0 ≡ get_or before (at + k) 0

-- no slot holds anything: such a table is right, whatever is true
abbrev pub Empty : List ℕ → Type 0
Empty room = (at : ℕ) → Slot (length room) at → mark_of room at ≡ 0
