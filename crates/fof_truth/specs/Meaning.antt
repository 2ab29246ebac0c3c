-- What each outcome of a book means (document 02, One), without the tests: each line supposes that those before it do not apply, in the order 13, 6, 3, 10.
use Rattle.std.specs.Prelude.{ℕ, ◌≤◌, ◌≡◌, List, length}
use Rattle.std.proofs.Math.Option.{some}
use Rattle.sexp.specs.Sexp.{nesting}
use Rattle.packet.specs.Written.{rules_sexp, goal_sexp}
use Rattle.packet.specs.File.{most_bytes, most_levels, most_members}
use Rattle.fof_truth.specs.Formula.{Line}
use Rattle.fof_truth.specs.Part.{BookInPart}
use Rattle.fof_truth.specs.Book.{Book, book_in, rules_file, goal_file, Why, Outcome}

-- at most 256 rules
abbrev pub Few : Book → Type 0
Few b = length b.rules ≤ most_members

-- no list at level 65
pub record Flat (b : Book) : Type 0 where
  pub rules : nesting (rules_sexp b.rules) ≤ most_levels
  pub goal : nesting (goal_sexp b.goal) ≤ most_levels

-- each file within its buffer and 16,384 bytes
pub record Short (a c : ℕ) (b : Book) : Type 0 where
  pub rules : length (rules_file b) ≤ a
  pub rules_allowed : length (rules_file b) ≤ most_bytes
  pub goal : length (goal_file b) ≤ c
  pub goal_allowed : length (goal_file b) ≤ most_bytes

-- the lines become this book
abbrev pub Becomes : List Line → Book → Type 0
Becomes ls b = book_in ls ≡ some b

pub data Means (ls : List Line) (a c : ℕ) : Outcome → Type 0 where
  outside : (BookInPart ls → ⊥) → Means ls a c (Outcome.refused Why.outside)
  too_many : (b : Book) → BookInPart ls → Becomes ls b → (Few b → ⊥) → Means ls a c (Outcome.refused Why.too_many)
  too_deep : (b : Book) → BookInPart ls → Becomes ls b → Few b → (Flat b → ⊥) → Means ls a c (Outcome.refused Why.too_deep)
  too_long : (b : Book) → BookInPart ls → Becomes ls b → Few b → Flat b → (Short a c b → ⊥) → Means ls a c (Outcome.refused Why.too_long)
  written : {b : Book} → BookInPart ls → Becomes ls b → Few b → Flat b → Short a c b → Means ls a c (Outcome.written b)
