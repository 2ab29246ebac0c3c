-- What the code says of an expression, or of the members of a list, that stands in bytes: where it ends, or the opening of its first barred term (Barred says which).
-- Asked of expressions that are built from the table of words; `Tabled` is as much of that as the question needs.
use Rattle.std.specs.Prelude.{ℕ, ◌+◌, ◌≤◌, ◌≡◌, Bool, true, false, List, length, Result, Ok, Err}
use Rattle.basics.specs.Choice.{maybe}
use Rattle.sexp.specs.Sexp.{Sexp, Sexps, str, spell, spells, Stands}
use Rattle.sexp.specs.Words.{is_number}
use Rattle.reader.specs.declared.bars.Sort as code
use Rattle.reader.specs.declared.bars.Sort.TheVariants as C
use Rattle.packet.specs.Table.{word_of}
use Rattle.packet.specs.Barred.{Holds, Sort, sort_of, barred, barreds}

-- of an expression with n quantifiers around it
unfoldable pub bars_of : Holds → ℕ → ℕ → Sexp → Result ℕ ℕ
bars_of holds n at e = maybe (barred holds n at e) (Ok (at + length (spell e))) Err

-- of members with the closing parenthesis
unfoldable pub bars_in : Holds → ℕ → ℕ → Sexps → Result ℕ ℕ
bars_in holds n at xs = maybe (barreds holds n at xs) (Ok (at + length (spells xs) + 1)) Err

-- a list of this sort holds a number and no more
abbrev pub holds_number : Sort → Bool
holds_number Sort.variable = true
holds_number Sort.parameter = true
holds_number Sort.quantifier = false
holds_number Sort.other = false

-- one number
abbrev pub OneNumber : Sexps → Type 0
OneNumber xs = (w : List ℕ) × (xs ≡ Sexps.cons (Sexp.str w) Sexps.nil) × (is_number w ≡ true)

-- no string has a hint, a list is empty or begins with a string, and a list that begins with `v` or `e` holds one number
abbrev mutual
  pub Tabled : Sexp → Type 0
  Tabled (Sexp.str w) = Unit {0}
  Tabled (Sexp.hinted h w) = ⊥
  Tabled (Sexp.list xs) = TabledList xs

  pub TabledList : Sexps → Type 0
  TabledList Sexps.nil = Unit {0}
  TabledList (Sexps.cons (Sexp.str w) xs) = (holds_number (sort_of (word_of w)) ≡ true → OneNumber xs) × Tableds xs
  TabledList (Sexps.cons (Sexp.hinted h w) xs) = ⊥
  TabledList (Sexps.cons (Sexp.list ys) xs) = ⊥

  pub Tableds : Sexps → Type 0
  Tableds Sexps.nil = Unit {0}
  Tableds (Sexps.cons x xs) = Tabled x × Tableds xs

-- the code's sort of a list
abbrev pub sort_as : Sort → code.Sort
sort_as Sort.variable = C.Variable
sort_as Sort.parameter = C.Parameter
sort_as Sort.quantifier = C.Quantifier
sort_as Sort.other = C.Other

-- where a plain string at an offset ends; inside the bytes in any case
pub record TextEnds (s : List ℕ) (at r : ℕ) : Type 0 where
  pub inside : r ≤ length s
  pub ends : (w : List ℕ) → Stands s at (str w) → r ≡ at + length (spell (str w))
