-- What the search keeps in the room beside its stack (document 02, Three): the numbers of rules and candidates (crate keys), the heads of rules and their arguments (crate narrow) and the table of atoms (crate table). Nothing of document 01 is in it: what the table says is said by `provable`, and no answer depends on what it holds.
use Rattle.std.specs.Prelude.{ℕ, zero, suc, ◌+◌, ◌≤◌, ◌<◌, ◌≡◌, true, false, List, [], ◌∷◌, length, take}
use Rattle.std.proofs.Math.Option.{some}
use Rattle.std.proofs.Math.ListN.{get_elem?}
use Rattle.harrop.specs.Formula.{Term, Atom, Clause}
use Rattle.harrop.specs.Bindings.{Bindings, replaced_atom}
use Rattle.harrop.specs.Place.{AtHand, Hand, Plain, listed}
use Rattle.room.specs.Where.{Kept}
use Rattle.room.specs.Files.{Files}
use Rattle.keys.specs.Keys.{KeysIn}
use Rattle.narrow.specs.Heads.{HeadsIn}
use Rattle.narrow.specs.Kept.{ArgumentsIn}
use Rattle.table.specs.Slots.{words_in}
use Rattle.table.specs.Good.{Truth, Choice, Good}
use Rattle.proving.specs.Provable as provable
use Rattle.proving.specs.Parts.{is_plain, quantifiers, core}
use Rattle.proving.specs.First.{Located}

-- so many open parameters, as the definitions count them
abbrev pub units : ℕ → List Plain
units zero = []
units (suc p) = tt ∷ units p

-- what is true of an atom whose variables are replaced: by the n rules and the first s clauses supposed after them, where p parameters are open
unfoldable pub truth : List Term → ℕ → Hand Plain → Truth
truth us n c s p zero a = false
truth us n c s p (suc h) a = provable.clauses_from (listed us) (units p) (take (n + s) c) (provable.ending (listed us) a (λ g bs. provable.provable (listed us) h (units p) (take (n + s) c) bs g)) 0

-- what is chosen for such an atom, where so much is left for the body: clause k is the first at hand that serves it and, if no `and` is on the way to its head, the words ns begin with the numbers of the first path through it, as many as there are.
-- The numbers are the same at every place with this atom, and wherever they stand
pub record Chooses (us : List Term) (left : ℕ) (o : List Plain) (c : Hand Plain) (x : Atom) (k : ℕ) (ns : List ℕ) : Type 0 where
  pub few : k < length c
  pub before : (j : ℕ) → j < k → provable.clause_does (listed us) o c (provable.ending (listed us) x (λ g bs. provable.provable (listed us) left o c bs g)) j ≡ false
  pub here : provable.clause_does (listed us) o c (provable.ending (listed us) x (λ g bs. provable.provable (listed us) left o c bs g)) k ≡ true
  pub numbers : (bs : Bindings) (a : Atom) → replaced_atom us bs a ≡ x → (h : AtHand Plain) → get_elem? c k ≡ some h → is_plain h.clause ≡ true → quantifiers h.clause ≤ length ns
      → (room : List ℕ) (top : ℕ) → words_in room top (length ns) ≡ ns → Located us left o c bs a (quantifiers h.clause) (core h.clause) h.bindings room (top + length h.bindings)

-- under the first s clauses supposed, as for what is true
unfoldable pub choice : List Term → ℕ → Hand Plain → Choice
choice us n c s p zero a k ns = ⊥
choice us n c s p (suc h) a k ns = Chooses us h (units p) (take (n + s) c) a k ns

-- the numbers and the heads are right, and so is what the table says of the first m supposed clauses
pub record Stock (f : Files) (ds : List (Clause Plain)) (us : List Term) (m : ℕ) (c : Hand Plain) (room : List ℕ) : Type 0 where
  pub keys : KeysIn room ds us
  pub heads : HeadsIn room f.rules ds
  pub arguments : ArgumentsIn room ds us
  pub good : Good f us (truth us (length ds) c) (choice us (length ds) c) m room

-- the words that a place relies on are as they were, and what is to be right is right still
pub record Keeps (right : List ℕ → Type 0) (supposed top : ℕ) (room after : List ℕ) : Type 0 where
  pub words : Kept supposed top room after
  pub stock : right room → right after
