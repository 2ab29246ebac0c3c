-- The arguments of rules' heads, kept in the room by the numbers of candidates (document 02, Three; crate arguments): a word for each rule, after the chains of crate keys. 0 where nothing is kept: the head has variables, no argument or more than three, or there is no one head.
use Rattle.std.specs.Prelude.{ℕ, ◌+◌, ◌%◌, ◌≤◌, ◌<◌, ◌≡◌, List, [], length, get_or}
use Rattle.std.proofs.Math.Option.{some}
use Rattle.std.proofs.Math.ListN.{get_elem?}
use Rattle.harrop.specs.Formula.{Term, Atom, Clause}
use Rattle.harrop.specs.Place.{Plain}
use Rattle.room.specs.Layout.{words}
use Rattle.room.specs.Table.{CandidatesIn}
use Rattle.room.specs.Where.{Booked}
use Rattle.room.specs.Files.{files_of}
use Rattle.equal.specs.Term.{AtomAt}
use Rattle.keys.specs.Chains.{Within}
use Rattle.keys.specs.Keys.{CandidateKeys, KeysIn}
use Rattle.unset.specs.Unset.{Small}
use Rattle.arguments.specs.Arguments.{ArgumentsAre}
use Rattle.narrow.specs.Heads.{head_of, in_rules, HeadsIn}

-- where the arguments of rule k's head are kept, and the first word after them
abbrev pub arguments_word : ℕ → ℕ
arguments_word k = 4608 + k

abbrev pub arguments_end : ℕ
arguments_end = 4864

-- no variable of a clause has this number
abbrev pub no_variable : ℕ
no_variable = 64

-- what a word says of the arguments of a head without variables
abbrev pub Says : List Term → Atom → ℕ → Type 0
Says us b w = ArgumentsAre us 0 [] no_variable b w

-- the table is right
abbrev pub ArgumentsIn : List ℕ → List (Clause Plain) → List Term → Type 0
ArgumentsIn room ds us = (k : ℕ) (d : Clause Plain) → get_elem? ds k ≡ some d → (b : Atom) → head_of d ≡ some b → Says us b (get_or room (arguments_word k) 0)

-- the word of a rule's head, by its number and its place: the number is odd, that of a head without variables, if it is not 0; and it says what the head's arguments are
pub record ArgumentsOf (rules terms room : List ℕ) (key at r : ℕ) : Type 0 where
  pub closed : (r ≡ 0 → ⊥) → key % 2 ≡ 0 → ⊥
  pub right : (us : List Term) (b : Atom) → Small (files_of rules rules terms) → CandidatesIn room terms us → CandidateKeys room us → AtomAt (files_of rules rules terms) (in_rules at) b → Says us b r

-- those of the first n rules are in the room
pub record ArgumentsDone (before after rules terms : List ℕ) (n : ℕ) : Type 0 where
  pub within : Within before after (arguments_word 0) arguments_end
  pub right : arguments_end ≤ length before → (goal : List ℕ) (ds : List (Clause Plain)) (us : List Term) → Booked (files_of rules goal terms) before ds us → KeysIn before ds us → HeadsIn before rules ds
      → (k : ℕ) (d : Clause Plain) → k < n → get_elem? ds k ≡ some d → (b : Atom) → head_of d ≡ some b → Says us b (get_or after (arguments_word k) 0)

-- the table filled: nothing else of the room is written, and where the numbers and the heads are right it is right
pub record ArgumentsFilled (before after rules terms : List ℕ) : Type 0 where
  pub within : Within before after (arguments_word 0) arguments_end
  pub right : words ≤ length before → (goal : List ℕ) (ds : List (Clause Plain)) (us : List Term) → Booked (files_of rules goal terms) before ds us → KeysIn before ds us → HeadsIn before rules ds → ArgumentsIn after ds us
