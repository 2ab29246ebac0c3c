-- A chain of `some`: how many quantifiers a goal begins with, and what stands inside them (document 02, Three: a goal inside is looked at as soon as its variables are set). It is searched like the body of a clause, with no head to compare.
use Rattle.std.specs.Prelude.{ℕ, suc, ◌+◌, ◌≤◌, ◌≡◌, true, false, [], length}
use Rattle.harrop.specs.Formula.{Terms, Atom, Goal}
use Rattle.harrop.specs.Place.{Plain}
use Rattle.sexp.specs.Sexp.{Stands, nesting}
use Rattle.packet.specs.Written.{goal_sexp}
use Rattle.packet.specs.File.{most_bytes}
use Rattle.room.specs.Files.{Files}
use Rattle.room.specs.declared.Spot.{Spot}
use Rattle.heads.specs.Predicate.{bytes_at}
use Rattle.proving.specs.declared.plain.Parts.{Parts}

abbrev pub chain : Goal Plain → ℕ
chain Goal.top = 0
chain (Goal.atom a) = 0
chain (Goal.and g g') = 0
chain (Goal.or g g') = 0
chain (Goal.some q g) = suc (chain g)
chain (Goal.all q g) = 0
chain (Goal.imp d g) = 0

abbrev pub inside : Goal Plain → Goal Plain
inside Goal.top = Goal.top
inside (Goal.atom a) = Goal.atom a
inside (Goal.and g g') = Goal.and g g'
inside (Goal.or g g') = Goal.or g g'
inside (Goal.some q g) = inside g
inside (Goal.all q g) = Goal.all q g
inside (Goal.imp d g) = Goal.imp d g

-- an atom without variables, which stands for the head that is not there and for what it would be compared with
abbrev pub headless : Atom
headless = Atom.atom [] Terms.nil

-- what stands inside, as parts
abbrev pub inside_at : Spot → ℕ → Parts
inside_at x own = record { own = own; body = true; headed = false; goal = x; head = x }

-- a goal at a spot
pub record GoalThere (f : Files) (x : Spot) (g : Goal Plain) : Type 0 where
  pub stands : Stands (bytes_at f x) x.at (goal_sexp g)
  pub small : length (bytes_at f x) ≤ most_bytes

-- what stands inside the goal at a spot, where so many quantifiers were passed before, in the frame of all variables
pub record ChainAt (f : Files) (x : Spot) (passed : ℕ) (g : Goal Plain) (r : Parts) : Type 0 where
  pub own : r.own ≡ passed + chain g
  pub body : r.body ≡ true
  pub headed : r.headed ≡ false
  pub base : (r.head.base ≡ x.base) × (r.goal.base ≡ x.base)
  pub count : (r.head.count ≡ x.count + chain g) × (r.goal.count ≡ x.count + chain g)
  pub stands : Stands (bytes_at f r.goal) r.goal.at (goal_sexp (inside g))

pub record ChainOf (f : Files) (x : Spot) (own nest : ℕ) (r : Parts) : Type 0 where
  pub some : 1 ≤ own → 1 ≤ r.own
  pub parts : (g : Goal Plain) → nesting (goal_sexp g) ≤ nest → GoalThere f x g → x.count + nest ≤ most_bytes → own + nest ≤ most_bytes → ChainAt f x own g r
