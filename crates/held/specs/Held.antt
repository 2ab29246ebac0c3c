-- Which variables an expression holds, by its words (document 01, the table of words): a list that begins with v is the variable whose number follows, and inside a list that begins with all or some variable i is the one before numbered i + 1.
-- That these are the variables that the term, the goal or the clause mentions which is written so is shown in proofs/VariableLaws.
use Rattle.std.specs.Prelude.{ℕ, ◌+◌, ◌≤◌, ◌≡◌, Bool, true, false, ◌&&◌, ◌||◌, List, get_or}
use Rattle.basics.specs.Choice.{choose}
use Rattle.basics.specs.Text.{octets}
use Rattle.harrop.specs.Bindings.{same_name}
use Rattle.harrop.specs.Formula.{Term, Goal, Clause}
use Rattle.harrop.specs.Place.{Plain}
use Rattle.std.specs.Prelude.{Option, Some, None}
use Rattle.sexp.specs.Past.{Ends, PastAt}
use Rattle.sexp.specs.Sexp.{Sexp, Sexps, Stands, StandsAll, nesting}
use Rattle.sexp.specs.Words.{is_number, worth}
use Rattle.sexp.specs.WordsAt.{Numeral}
use Rattle.packet.specs.Written.{term_sexp, goal_sexp, clause_sexp}
use Rattle.packet.specs.Barred.{term_ok, goal_ok, clause_ok}
use Rattle.packet.specs.File.{most_bytes}
use Rattle.room.specs.Layout.{levels}
use Rattle.room.specs.Where.{plus}
use Rattle.mentions.specs.Mentions.{inside, insides, mentions_term, mentions_goal, mentions_clause}
use Rattle.held.specs.declared.variables.Met.{Met}
use Rattle.held.specs.declared.variables.Met.TheVariants as M

-- whether members begin with a word
abbrev pub begins : List ℕ → Sexps → Bool
begins w Sexps.nil = false
begins w (Sexps.cons (Sexp.str v) xs) = same_name v w
begins w (Sexps.cons (Sexp.hinted h v) xs) = false
begins w (Sexps.cons (Sexp.list ys) xs) = false

-- whether they are those of a quantifier
abbrev pub binds : Sexps → Bool
binds xs = begins (octets "all") xs || begins (octets "some") xs

-- those after the first
abbrev pub after_first : Sexps → Sexps
after_first Sexps.nil = Sexps.nil
after_first (Sexps.cons x xs) = xs

-- whether the first of them is a number that has a property
abbrev pub asks_first : (ℕ → Bool) → Sexps → Bool
asks_first p Sexps.nil = false
asks_first p (Sexps.cons (Sexp.str w) xs) = is_number w && p (worth w)
asks_first p (Sexps.cons (Sexp.hinted h w) xs) = false
asks_first p (Sexps.cons (Sexp.list ys) xs) = false

-- whether an expression holds a variable with a property, and whether one of these members does
abbrev mutual
  pub held_in : (ℕ → Bool) → Sexp → Bool
  held_in p (Sexp.str w) = false
  held_in p (Sexp.hinted h w) = false
  held_in p (Sexp.list xs) = choose (begins (octets "v") xs) (asks_first p (after_first xs)) (held_any (choose (binds xs) (inside p) p) xs)

  pub held_any : (ℕ → Bool) → Sexps → Bool
  held_any p Sexps.nil = false
  held_any p (Sexps.cons x xs) = held_in p x || held_any p xs

-- the answer is whether the first of the members from an offset on is a number with a property, asked so many quantifiers inside
abbrev pub AsksAt : List ℕ → ℕ → ℕ → (ℕ → Bool) → Bool → Type 0
AsksAt s at depth p r = (xs : Sexps) → StandsAll s at xs → r ≡ asks_first (insides depth p) xs

-- the answer is how many quantifiers are around the members of the list at an offset
abbrev pub AroundAt : List ℕ → ℕ → ℕ → ℕ → Type 0
AroundAt s at depth r = (xs : Sexps) → Stands s at (Sexp.list xs) → r ≡ choose (binds xs) (plus depth 1) depth

-- the answer is whether the expression at an offset holds a variable with a property, asked so many quantifiers inside
abbrev pub HeldAt : List ℕ → ℕ → ℕ → ℕ → (ℕ → Bool) → Bool → Type 0
HeldAt s at depth nest p r = (e : Sexp) → Stands s at e → nesting e ≤ nest → nest ≤ levels → depth + nest ≤ most_bytes → r ≡ held_in (insides depth p) e

-- the answer is whether the term, the goal or the clause at an offset holds a variable with a property, asked so many quantifiers inside. Any expression may stand there
pub record Holding (s : List ℕ) (at depth nest : ℕ) (p : ℕ → Bool) (r : Bool) : Type 0 where
  pub expression : HeldAt s at depth nest p r
  pub term : (t : Term) (holds : Bool) (around : ℕ) → Stands s at (term_sexp t) → nesting (term_sexp t) ≤ nest → nest ≤ levels → depth + nest ≤ most_bytes → around ≤ levels → term_ok holds around t ≡ true
      → r ≡ mentions_term (insides depth p) t
  pub goal : (g : Goal Plain) (around : ℕ) → Stands s at (goal_sexp g) → nesting (goal_sexp g) ≤ nest → nest ≤ levels → depth + nest ≤ most_bytes → around ≤ levels → goal_ok around g ≡ true
      → r ≡ mentions_goal (insides depth p) g
  pub clause : (d : Clause Plain) (around : ℕ) → Stands s at (clause_sexp d) → nesting (clause_sexp d) ≤ nest → nest ≤ levels → depth + nest ≤ most_bytes → around ≤ levels → clause_ok around d ≡ true
      → r ≡ mentions_clause (insides depth p) d

-- an expression ends at n; none of its variables has the property that is asked for, and whether one has another is said
pub record PastBy (s : List ℕ) (at depth nest : ℕ) (p o : ℕ → Bool) (with : Bool) (n : ℕ) : Type 0 where
  pub none : Holding s at depth nest p false
  pub others : Holding s at depth nest o with
  pub ends : Ends s at nest n

-- what is met in the expression at an offset of any bytes: a variable with a property; or none, and then whether one with another property, and where the expression ends; or none stands there
abbrev pub Meets : List ℕ → ℕ → ℕ → ℕ → (ℕ → Bool) → (ℕ → Bool) → Met → Type 0
Meets s at depth nest p o M.Asked = Holding s at depth nest p true
Meets s at depth nest p o (M.Past b n) = PastBy s at depth nest p o b n
Meets s at depth nest p o M.Nothing = PastAt s at nest None

-- the same where a list that may be there opens with the word of a variable, and its end where the number is known
abbrev pub AtVariable : List ℕ → ℕ → ℕ → Type 0 → Type 0
AtVariable s at nest P = get_or s at 0 ≡ 40 → (nest ≡ 0 → ⊥) → Stands s (plus at 1) (Sexp.str (octets "v")) → P

abbrev pub MeetsVariable : List ℕ → ℕ → ℕ → ℕ → (ℕ → Bool) → (ℕ → Bool) → Met → Type 0
MeetsVariable s at depth nest p o r = AtVariable s at nest (Meets s at depth nest p o r)

abbrev pub PastVariable : List ℕ → ℕ → ℕ → ℕ → Option ℕ → Type 0
PastVariable s at nest i r = AtVariable s at nest (Numeral s (plus at 4) i → PastAt s at nest r)

-- what is met where none is that is asked for, by the end that was found
abbrev pub met_by : Option ℕ → Bool → Met
met_by (Some n) b = M.Past b n
met_by None b = M.Nothing
