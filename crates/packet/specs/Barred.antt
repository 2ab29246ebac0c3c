-- Refusal 5 and its place: the opening parenthesis of the first term that is barred at its place (document 01, "The carrier and the words"; request Two).
-- A variable must be below the number of quantifiers around it in its file's formula; rules and goal hold no parameter, candidates no variable, and a parameter is from 1 to 64.
-- Asked of files that are built from the table, so a list's word says what it is.
use Rattle.std.specs.Prelude.{ℕ, ◌+◌, suc, Bool, true, false, ◌&&◌, ◌||◌, not, List, [], ◌∷◌, leb, ltb, length}
use Rattle.std.proofs.Math.Option.{Option, none, some}
use Rattle.basics.specs.Choice.{choose, or_else}
use Rattle.harrop.specs.Formula.{Term, Terms, Atom, Goal, Clause}
use Rattle.harrop.specs.Place.{Plain}
use Rattle.sexp.specs.Sexp.{Sexp, Sexps, spell}
use Rattle.sexp.specs.Words.{worth}
use Rattle.packet.specs.declared.Word.{Word}
use Rattle.packet.specs.declared.Word.TheVariants as W
use Rattle.packet.specs.Table.{word_of}

-- whether a file may hold parameters: the terms file may
abbrev pub Holds : Type 0
Holds = Bool

-- on the trees: n quantifiers around
abbrev pub parameter_ok : Holds → ℕ → Bool
parameter_ok holds k = holds && leb 1 k && leb k 64

abbrev mutual
  pub term_ok : Holds → ℕ → Term → Bool
  term_ok holds n (Term.v i) = ltb i n
  term_ok holds n (Term.f g ts) = terms_ok holds n ts
  term_ok holds n (Term.e k) = parameter_ok holds k

  pub terms_ok : Holds → ℕ → Terms → Bool
  terms_ok holds n Terms.nil = true
  terms_ok holds n (Terms.cons t ts) = term_ok holds n t && terms_ok holds n ts

abbrev pub atom_ok : ℕ → Atom → Bool
atom_ok n (Atom.atom p ts) = terms_ok false n ts

abbrev mutual
  pub goal_ok : ℕ → Goal Plain → Bool
  goal_ok n Goal.top = true
  goal_ok n (Goal.atom a) = atom_ok n a
  goal_ok n (Goal.and g h) = goal_ok n g && goal_ok n h
  goal_ok n (Goal.or g h) = goal_ok n g && goal_ok n h
  goal_ok n (Goal.some q g) = goal_ok (suc n) g
  goal_ok n (Goal.all q g) = goal_ok (suc n) g
  goal_ok n (Goal.imp d g) = clause_ok n d && goal_ok n g

  pub clause_ok : ℕ → Clause Plain → Bool
  clause_ok n (Clause.atom_d a) = atom_ok n a
  clause_ok n (Clause.imp_d g a) = goal_ok n g && atom_ok n a
  clause_ok n (Clause.all_d q d) = clause_ok (suc n) d
  clause_ok n (Clause.and_d c d) = clause_ok n c && clause_ok n d

-- all of a list
abbrev pub each_ok : {A : Type 0} → (A → Bool) → List A → Bool
each_ok ok [] = true
each_ok ok (x ∷ xs) = ok x && each_ok ok xs

-- on the expressions, with the place
-- what a list is by its word: a variable, a parameter, a quantifier, or anything else
pub data Sort : Type 0 where
  variable : Sort
  parameter : Sort
  quantifier : Sort
  other : Sort

unfoldable pub sort_of : Word → Sort
sort_of W.V = Sort.variable
sort_of W.F = Sort.other
sort_of W.E = Sort.parameter
sort_of W.Atom = Sort.other
sort_of W.Top = Sort.other
sort_of W.And = Sort.other
sort_of W.Or = Sort.other
sort_of W.Some = Sort.quantifier
sort_of W.All = Sort.quantifier
sort_of W.Imp = Sort.other
sort_of W.Left = Sort.other
sort_of W.Right = Sort.other
sort_of W.Use = Sort.other
sort_of W.Rules = Sort.other
sort_of W.Terms = Sort.other
sort_of W.Nothing = Sort.other

-- what the first of these members says, where it is a string
unfoldable pub number_in : Sexps → ℕ
number_in Sexps.nil = 0
number_in (Sexps.cons (Sexp.str w) xs) = worth w
number_in (Sexps.cons (Sexp.hinted h w) xs) = 0
number_in (Sexps.cons (Sexp.list ys) xs) = 0

unfoldable mutual
  -- in an expression at an offset, n quantifiers around it
  pub barred : Holds → ℕ → ℕ → Sexp → Option ℕ
  barred holds n at (Sexp.str w) = none
  barred holds n at (Sexp.hinted h w) = none
  barred holds n at (Sexp.list xs) = barred_list holds n at xs

  -- in a list that opens at an offset
  pub barred_list : Holds → ℕ → ℕ → Sexps → Option ℕ
  barred_list holds n at Sexps.nil = none
  barred_list holds n at (Sexps.cons (Sexp.hinted h w) xs) = none
  barred_list holds n at (Sexps.cons (Sexp.list ys) xs) = none
  barred_list holds n at (Sexps.cons (Sexp.str w) xs) =
      elim (sort_of (word_of w)) [
        | Sort.variable ↦ choose (ltb (number_in xs) n) none (some at)
        | Sort.parameter ↦ choose (parameter_ok holds (number_in xs)) none (some at)
        | Sort.quantifier ↦ barreds holds (suc n) (at + 1 + length (spell (Sexp.str w))) xs
        | Sort.other ↦ barreds holds n (at + 1 + length (spell (Sexp.str w))) xs
      ]

  -- in members from an offset on
  pub barreds : Holds → ℕ → ℕ → Sexps → Option ℕ
  barreds holds n at Sexps.nil = none
  barreds holds n at (Sexps.cons x xs) = or_else (barred holds n at x) (barreds holds n (at + length (spell x)) xs)
