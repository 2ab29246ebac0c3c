-- When the table is right: what each slot says of its atom is true (document 02, Three). What is true is a parameter here: T s p h a says of an atom a whose variables are replaced, where s clauses are supposed and p parameters are open, whether it is proved within the height h;
-- C s p h a k ns says that clause k is the first that serves it, and that the words ns begin with the numbers of the first path through that clause.
-- Only slots of at most m supposed clauses are spoken of: others are not read at a place with m.
use Rattle.std.specs.Prelude.{ℕ, ◌+◌, ◌-◌, ◌%◌, ◌≤◌, ◌<◌, ◌≡◌, Bool, true, false, List, length, get_or}
use Rattle.harrop.specs.Formula.{Term, Atom}
use Rattle.harrop.specs.Bindings.{replaced_atom}
use Rattle.room.specs.Spot.{bindings_at}
use Rattle.equal.specs.Term.{AtomAt}
use Rattle.room.specs.Files.{Files}
use Rattle.table.specs.Slots.{Slot, slot_spot, count_of, mark_of, parameters_of, failed_at, proved_at, choice_at, numbers_of, numbers_word, words_in}

-- what is true of atoms: by the supposed clauses, the open parameters and the height
abbrev pub Truth : Type 0
Truth = ℕ → ℕ → ℕ → Atom → Bool

-- what is proved within a height is so within a greater one
abbrev pub Rises : Truth → Type 0
Rises T = (s p h h' : ℕ) (a : Atom) → T s p h a ≡ true → h ≤ h' → T s p h' a ≡ true

-- and by which clause
abbrev pub Choice : Type 1
Choice = ℕ → ℕ → ℕ → Atom → ℕ → List ℕ → Type 0

-- a slot that is right: an atom stands at its spot, it failed at the height that says so, and is proved at the height that says so, by the clause that says so
pub record Right (f : Files) (us : List Term) (T : Truth) (C : Choice) (s : ℕ) (room : List ℕ) (at : ℕ) : Type 0 where
  pub few : count_of room at ≤ 8
  pub atom : Atom
  pub here : AtomAt f (slot_spot room at) atom
  pub failed : 0 < failed_at room at → T s (parameters_of room at) (failed_at room at) (replaced_atom us (bindings_at room (slot_spot room at)) atom) ≡ false
  pub proved : 0 < proved_at room at → T s (parameters_of room at) (proved_at room at) (replaced_atom us (bindings_at room (slot_spot room at)) atom) ≡ true
  pub chosen : 0 < choice_at room at → C s (parameters_of room at) (proved_at room at) (replaced_atom us (bindings_at room (slot_spot room at)) atom) (choice_at room at - 1) (words_in room (numbers_word room at) (numbers_of room at))

-- each slot of at most m supposed clauses is right
abbrev pub Good : Files → List Term → Truth → Choice → ℕ → List ℕ → Type 0
Good f us T C m room = (at s : ℕ) → Slot (length room) at → mark_of room at ≡ s + 1 → s ≤ m → Right f us T C s room at
