-- A clause with no `and` on the way to its head, by its parts: how many quantifiers it has, and what stands inside them, an atom or a goal that implies an atom.
use Rattle.std.specs.Prelude.{ℕ, suc, ◌+◌, ◌-◌, ◌≤◌, ◌<◌, ◌≡◌, Bool, true, false, List, ltb, get_or}
use Rattle.std.proofs.Math.Option.{some}
use Rattle.basics.specs.Choice.{choose}
use Rattle.harrop.specs.Formula.{Atom, Goal, Clause}
use Rattle.harrop.specs.Place.{Plain}
use Rattle.std.specs.Prelude.{Option, Some, None, is_some}
use Rattle.sexp.specs.Sexp.{Stands, nesting}
use Rattle.packet.specs.Written.{atom_sexp, goal_sexp, clause_sexp}
use Rattle.packet.specs.File.{most_bytes}
use Rattle.room.specs.Layout.{levels, rules_word}
use Rattle.room.specs.Where.{plus}
use Rattle.room.specs.Files.{Files}
use Rattle.room.specs.declared.Spot.{Spot}
use Rattle.room.specs.declared.Where.{Where}
use Rattle.heads.specs.Predicate.{bytes_at, ClauseThere}
use Rattle.narrow.specs.Heads as heads
use Rattle.proving.specs.declared.plain.Parts.{Parts}

abbrev pub is_plain : Clause Plain → Bool
is_plain (Clause.atom_d b) = true
is_plain (Clause.imp_d g b) = true
is_plain (Clause.all_d q d) = is_plain d
is_plain (Clause.and_d c d) = false

-- how many quantifiers are around, and what is inside them
abbrev pub quantifiers : Clause Plain → ℕ
quantifiers (Clause.atom_d b) = 0
quantifiers (Clause.imp_d g b) = 0
quantifiers (Clause.all_d q d) = suc (quantifiers d)
quantifiers (Clause.and_d c d) = 0

abbrev pub core : Clause Plain → Clause Plain
core (Clause.atom_d b) = Clause.atom_d b
core (Clause.imp_d g b) = Clause.imp_d g b
core (Clause.all_d q d) = core d
core (Clause.and_d c d) = Clause.and_d c d

-- the head of a clause with no `and` on the way to it, with or without a body
abbrev pub head_of : Clause Plain → Atom
head_of (Clause.atom_d b) = b
head_of (Clause.imp_d g b) = b
head_of (Clause.all_d q d) = head_of d
head_of (Clause.and_d c d) = head_of c

-- what is inside stands where the parts say
abbrev pub CoreAt : Files → Parts → Clause Plain → Type 0
CoreAt f r (Clause.atom_d b) = (r.body ≡ false) × Stands (bytes_at f r.head) r.head.at (atom_sexp b)
CoreAt f r (Clause.imp_d g b) = (r.body ≡ true) × Stands (bytes_at f r.head) r.head.at (atom_sexp b) × Stands (bytes_at f r.goal) r.goal.at (goal_sexp g)
CoreAt f r (Clause.all_d q d) = ⊥
CoreAt f r (Clause.and_d c d) = ⊥

-- the parts of the clause at a spot, where so many quantifiers were passed before; both are in the frame of all variables
pub record PartsAt (f : Files) (x : Spot) (passed : ℕ) (d : Clause Plain) (r : Parts) : Type 0 where
  pub headed : r.headed ≡ true
  pub own : r.own ≡ passed + quantifiers d
  pub base : (r.head.base ≡ x.base) × (r.goal.base ≡ x.base)
  pub count : (r.head.count ≡ x.count + quantifiers d) × (r.goal.count ≡ x.count + quantifiers d)
  pub stands : CoreAt f r (core d)

-- where the head of a clause is said to stand, it does
abbrev pub HeadSaid : Files → Spot → ℕ → Clause Plain → Type 0
HeadSaid f x at d = (b : Atom) → heads.head_of d ≡ some b → Stands (bytes_at f x) at (atom_sexp b)

-- the answer is where the head behind the body of an `imp` stands, if what is known of it is so
abbrev pub Behind : Files → Spot → Bool → ℕ → Goal Plain → Atom → Option ℕ → Type 0
Behind f x known at g b None = ⊥
Behind f x known at g b (Some m) = (known ≡ true → HeadSaid f x at (Clause.imp_d g b)) → Stands (bytes_at f x) m (atom_sexp b)

abbrev pub HeadBehind : Files → Spot → Bool → ℕ → Option ℕ → Type 0
HeadBehind f x known at r = (g : Goal Plain) (b : Atom) → ClauseThere f x (Clause.imp_d g b) → Behind f x known at g b r

-- whether there are such parts is told whatever is known of the head; they are right if that is so
pub record PartsFrom (f : Files) (x : Spot) (known : Bool) (at own nest : ℕ) (r : Option Parts) : Type 0 where
  pub few : (p : Parts) → r ≡ Some p → p.own ≤ own + nest
  pub told : (d : Clause Plain) → nesting (clause_sexp d) ≤ nest → ClauseThere f x d → x.count + nest ≤ most_bytes → own + nest ≤ most_bytes → is_some r ≡ is_plain d
  pub parts : (d : Clause Plain) → nesting (clause_sexp d) ≤ nest → ClauseThere f x d → x.count + nest ≤ most_bytes → own + nest ≤ most_bytes → (known ≡ true → HeadSaid f x at d) → (p : Parts) → r ≡ Some p → PartsAt f x own d p

pub record PartsOf (f : Files) (x : Spot) (own nest : ℕ) (r : Option Parts) : Type 0 where
  pub few : (p : Parts) → r ≡ Some p → p.own ≤ own + nest
  pub told : (d : Clause Plain) → nesting (clause_sexp d) ≤ nest → ClauseThere f x d → x.count + nest ≤ most_bytes → own + nest ≤ most_bytes → is_some r ≡ is_plain d
  pub parts : (d : Clause Plain) → nesting (clause_sexp d) ≤ nest → ClauseThere f x d → x.count + nest ≤ most_bytes → own + nest ≤ most_bytes → (p : Parts) → r ≡ Some p → PartsAt f x own d p

-- the parts of clause k at a spot, if the room is right on where the heads of rules stand
pub record ClauseParts (f : Files) (room : List ℕ) (k : ℕ) (x : Spot) (r : Option Parts) : Type 0 where
  pub few : (p : Parts) → r ≡ Some p → p.own ≤ levels
  pub told : (d : Clause Plain) → ClauseThere f x d → x.count ≤ levels → is_some r ≡ is_plain d
  pub parts : (d : Clause Plain) → ClauseThere f x d → x.count ≤ levels → (k < get_or room rules_word 0 → HeadSaid f x (get_or room (plus (heads.head_word 0) k) 0) d) → (p : Parts) → r ≡ Some p → PartsAt f x 0 d p

-- whether the clause at a spot is such a one
abbrev pub PlainAt : Files → Spot → Bool → Type 0
PlainAt f x r = (d : Clause Plain) → nesting (clause_sexp d) ≤ levels → ClauseThere f x d → x.count ≤ levels → r ≡ is_plain d

-- the same parts, with a head that is to be compared or is not
abbrev pub with_head : Parts → Bool → Parts
with_head p headed = record { own = p.own; body = p.body; headed = headed; goal = p.goal; head = p.head }

-- the word of the room that variable v of a frame is in
abbrev pub variable_word : Spot → ℕ → ℕ
variable_word x v = choose (ltb v x.count) (plus x.base (x.count - 1 - v)) (plus x.base x.count)

-- the place of the body
abbrev pub body_place : Where → Parts → Where
body_place w p = record { goal = p.goal; supposed = w.supposed; parameters = w.parameters; top = plus p.goal.base p.goal.count }
