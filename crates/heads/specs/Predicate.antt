-- The predicate of an atom: its name and how many arguments it has; and whether a clause has a head with an atom's predicate (document 02, Three: "look at the predicate's name and number of arguments before it tries candidates for a clause"). Under an `and` each of the two clauses has heads, and any of them counts.
-- That a clause without such a head serves no atom of that predicate, whichever candidates are chosen, is shown in crate proving.
use Rattle.std.specs.Prelude.{ℕ, suc, ◌≤◌, ◌≡◌, Bool, ◌&&◌, ◌||◌, List, eqb, length}
use Rattle.harrop.specs.Formula.{Terms, Atom, Clause}
use Rattle.harrop.specs.Bindings.{same_name}
use Rattle.harrop.specs.Place.{Plain}
use Rattle.sexp.specs.Sexp.{Sexps, nil, cons, Stands, StandsAll, nesting, nestings}
use Rattle.packet.specs.Written.{atom_sexp, clause_sexp}
use Rattle.packet.specs.File.{most_bytes}
use Rattle.packet.specs.declared.Word.{Word}
use Rattle.room.specs.Files.{Files, file_of}
use Rattle.room.specs.declared.Spot.{Spot}
use Rattle.heads.specs.Heads.{clause_word}

-- how many arguments there are
abbrev pub arguments : Terms → ℕ
arguments Terms.nil = 0
arguments (Terms.cons t ts) = suc (arguments ts)

-- the same name and as many arguments
unfoldable pub same_predicate : Atom → Atom → Bool
same_predicate (Atom.atom n ts) (Atom.atom m us) = same_name n m && eqb (arguments ts) (arguments us)

-- a clause has a head with an atom's predicate
unfoldable pub has_head : Clause Plain → Atom → Bool
has_head (Clause.atom_d b) a = same_predicate b a
has_head (Clause.imp_d g b) a = same_predicate b a
has_head (Clause.all_d q d) a = has_head d a
has_head (Clause.and_d c d) a = has_head c a || has_head d a

-- how many members a row of expressions has
abbrev pub many : Sexps → ℕ
many nil = 0
many (cons x xs) = suc (many xs)

-- whether two rows, each up to its closing parenthesis, have as many members
abbrev pub SameNumber : List ℕ → List ℕ → ℕ → ℕ → Bool → Type 0
SameNumber s t i j r =
    (xs ys : Sexps) → StandsAll s i xs → nestings xs ≤ 64 → StandsAll t j ys → nestings ys ≤ 64 → r ≡ eqb (many xs) (many ys)

-- whether the atoms that two files' parts start with have the same predicate
abbrev pub SamePredicate : List ℕ → List ℕ → Bool → Type 0
SamePredicate s t r =
    (a b : Atom) → Stands s 0 (atom_sexp a) → nesting (atom_sexp a) ≤ 64 → Stands t 0 (atom_sexp b) → nesting (atom_sexp b) ≤ 64 → r ≡ same_predicate a b

-- an atom, or a clause, at a spot
abbrev pub bytes_at : Files → Spot → List ℕ
bytes_at f x = file_of f x.source

pub record AtomThere (f : Files) (x : Spot) (a : Atom) : Type 0 where
  pub stands : Stands (bytes_at f x) x.at (atom_sexp a)
  pub shallow : nesting (atom_sexp a) ≤ 64

pub record ClauseThere (f : Files) (x : Spot) (d : Clause Plain) : Type 0 where
  pub stands : Stands (bytes_at f x) x.at (clause_sexp d)
  pub shallow : nesting (clause_sexp d) ≤ 64
  pub small : length (bytes_at f x) ≤ most_bytes

abbrev pub SameThere : Files → Spot → Spot → Bool → Type 0
SameThere f x y r = (a b : Atom) → AtomThere f x a → AtomThere f y b → r ≡ same_predicate a b

-- whether the clause at a spot has a head with the predicate of the atom at another
abbrev pub HasHead : Files → Spot → Spot → ℕ → Bool → Type 0
HasHead f x y nest r = (d : Clause Plain) (a : Atom) → nesting (clause_sexp d) ≤ nest → ClauseThere f x d → AtomThere f y a → r ≡ has_head d a

-- the same of a clause with a word, whose parts nest at most so deep
abbrev pub HasHeadAs : Word → Files → Spot → Spot → ℕ → Bool → Type 0
HasHeadAs word f x y nest r =
    (d : Clause Plain) (a : Atom) → clause_word d ≡ word → nesting (clause_sexp d) ≤ suc nest → ClauseThere f x d → AtomThere f y a → r ≡ has_head d a
