-- The table's slots in what is left of the work room (document 02, Three): which words a slot has and what each holds. A slot is 16 words and begins at a multiple of 16, from word 5,376 on:
-- the source, the offset and the number of bindings of an atom, the supposed clauses and one more (0: the slot is empty), the parameters, the height at which it failed and the height at which it is proved (0: none), the clause that serves it first at that height and one more (0: none), and from the ninth word on its bindings, at most 8.
-- So a slot is itself a spot. The words behind the bindings are for the numbers of the first path through that clause.
use Rattle.std.specs.Prelude.{ℕ, zero, suc, ◌+◌, ◌-◌, ◌*◌, ◌/◌, ◌%◌, ◌≤◌, ◌<◌, ◌≡◌, Bool, true, false, List, [], ◌∷◌, eqb, ltb, length, get_or, set}
use Rattle.std.proofs.lemmas.List.Edits.{sets}
use Rattle.basics.specs.Choice.{choose}
use Rattle.room.specs.Frame.{held, copied}
use Rattle.room.specs.Spot.{source_number, source_of}
use Rattle.room.specs.Where.{plus}
use Rattle.room.specs.declared.Spot.{Spot}

-- the first word of the table
abbrev pub table_word : ℕ
table_word = 5376

abbrev pub slot_words : ℕ
slot_words = 16

-- a slot begins at a word of a room of so many words
pub record Slot (words at : ℕ) : Type 0 where
  pub first : table_word ≤ at
  pub step : at % 16 ≡ 0
  pub inside : at + 16 ≤ words

-- the slot of a key, in a room of so many words; 0 where there is none
unfoldable pub slot_for : ℕ → ℕ → ℕ
slot_for words key = choose (ltb words 5392) 0 (table_word + slot_words * (key % ((words - table_word) / slot_words)))

-- a slot's words
abbrev pub count_of : List ℕ → ℕ → ℕ
count_of room at = get_or room (at + 2) 0

abbrev pub mark_of : List ℕ → ℕ → ℕ
mark_of room at = get_or room (at + 3) 0

abbrev pub parameters_of : List ℕ → ℕ → ℕ
parameters_of room at = get_or room (at + 4) 0

abbrev pub failed_at : List ℕ → ℕ → ℕ
failed_at room at = get_or room (at + 5) 0

abbrev pub proved_at : List ℕ → ℕ → ℕ
proved_at room at = get_or room (at + 6) 0

abbrev pub choice_at : List ℕ → ℕ → ℕ
choice_at room at = get_or room (at + 7) 0

-- how many words there are behind the bindings, and the first of them
abbrev pub numbers_of : List ℕ → ℕ → ℕ
numbers_of room at = 8 - count_of room at

abbrev pub numbers_word : List ℕ → ℕ → ℕ
numbers_word room at = at + (16 - numbers_of room at)

-- so many words, from a word on
unfoldable pub words_in : List ℕ → ℕ → ℕ → List ℕ
words_in room at zero = []
words_in room at (suc n) = get_or room at 0 ∷ words_in room (at + 1) n

-- a slot as the spot of its atom
abbrev pub slot_spot : List ℕ → ℕ → Spot
slot_spot room at = record { source = source_of (get_or room (at + 0) 0); at = get_or room (at + 1) 0; base = at + 8; count = get_or room (at + 2) 0 }

-- the words of a slot before its bindings, for an atom of which nothing is known yet
abbrev pub entry_words : Spot → ℕ → ℕ → List ℕ
entry_words x supposed parameters = source_number x.source ∷ held x.at ∷ held x.count ∷ held (plus supposed 1) ∷ held parameters ∷ 0 ∷ 0 ∷ 0 ∷ []

-- the room after an atom is entered in a slot
unfoldable pub entered : List ℕ → Spot → ℕ → ℕ → ℕ → List ℕ
entered room x supposed parameters at = copied (sets room at (entry_words x supposed parameters)) x.base x.count (at + 8)

-- n words copied from one word on to another: no other is written, and where the two parts have no word in common the second is then as the first was
pub record Carried (before after : List ℕ) (from n to : ℕ) : Type 0 where
  pub long : length after ≡ length before
  pub others : (i : ℕ) → (to ≤ i → i < to + n → ⊥) → get_or after i 0 ≡ get_or before i 0
  pub there : to + n ≤ length before → ((i j : ℕ) → i < n → j < n → from + i ≡ to + j → ⊥) → (k : ℕ) → k < n → get_or after (to + k) 0 ≡ get_or before (from + k) 0

-- a height noted at which a slot's atom is proved, with the clause that serves it first and the numbers of its path, which stand from word `top` on
pub record Proved (before after : List ℕ) (at height choice top : ℕ) : Type 0 where
  pub long : length after ≡ length before
  pub proved : proved_at after at ≡ held height
  pub clause : choice_at after at ≡ held choice
  pub others : (i : ℕ) → (i ≡ at + 6 → ⊥) → (i ≡ at + 7 → ⊥) → (numbers_word before at ≤ i → i < at + 16 → ⊥) → get_or after i 0 ≡ get_or before i 0
  pub numbers : top + 8 ≤ at → (k : ℕ) → k < numbers_of before at → get_or after (numbers_word before at + k) 0 ≡ get_or before (top + k) 0

-- what is noted of a slot's atom: that it is proved at a height, or that it failed
pub data Notes (before after : List ℕ) (at height : ℕ) (found : Bool) (choice top : ℕ) : Type 0 where
  proved : found ≡ true → Proved before after at height choice top → Notes before after at height found choice top
  failed : found ≡ false → after ≡ set before (at + 5) (held height) → Notes before after at height found choice top

-- the room after a slot is emptied, if what it holds was found under so many supposed clauses
unfoldable pub emptied : List ℕ → ℕ → ℕ → List ℕ
emptied room at supposed = choose (eqb (mark_of room at) (supposed + 1)) (set room (at + 3) 0) room
