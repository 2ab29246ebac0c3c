-- Which lines are in the part that is read and fit document 01 (document 02, One), as statements on the formulas with their named variables, with no translation in them: every variable is
-- bound, every symbol is one of document 01's names, and the formula is a clause, or a goal, in its shape as it stands.
use Rattle.std.specs.Prelude.{◌≡◌, length}
use mathlib.Core.List.{List, [], ◌∷◌, Memᴰ}
use Rattle.basics.specs.Each.{Each}
use Rattle.harrop.specs.Formula.{Name}
use Rattle.packet.specs.Spells.{NameWords}
use Rattle.fof_truth.specs.Formula.{Term, Terms, Formula, Role, Line}

-- every variable is one of these or bound by a quantifier around it
abbrev mutual
  pub TermBound : List Name → Term → Type 0
  TermBound sc (Term.var x) = Memᴰ x sc
  TermBound sc (Term.fun g ts) = TermsBound sc ts

  pub TermsBound : List Name → Terms → Type 0
  TermsBound sc Terms.nil = Unit {0}
  TermsBound sc (Terms.cons t ts) = TermBound sc t × TermsBound sc ts

abbrev pub Bound : List Name → Formula → Type 0
Bound sc Formula.true = Unit {0}
Bound sc (Formula.atom p ts) = TermsBound sc ts
Bound sc (Formula.and F G) = Bound sc F × Bound sc G
Bound sc (Formula.or F G) = Bound sc F × Bound sc G
Bound sc (Formula.implies F G) = Bound sc F × Bound sc G
Bound sc (Formula.all x F) = Bound (x ∷ sc) F
Bound sc (Formula.some x F) = Bound (x ∷ sc) F

-- no free variable
abbrev pub Closed : Formula → Type 0
Closed F = Bound [] F

-- every function and every predicate has one of document 01's names
abbrev mutual
  pub TermNamed : Term → Type 0
  TermNamed (Term.var x) = Unit {0}
  TermNamed (Term.fun g ts) = NameWords g × TermsNamed ts

  pub TermsNamed : Terms → Type 0
  TermsNamed Terms.nil = Unit {0}
  TermsNamed (Terms.cons t ts) = TermNamed t × TermsNamed ts

abbrev pub Named : Formula → Type 0
Named Formula.true = Unit {0}
Named (Formula.atom p ts) = NameWords p × TermsNamed ts
Named (Formula.and F G) = Named F × Named G
Named (Formula.or F G) = Named F × Named G
Named (Formula.implies F G) = Named F × Named G
Named (Formula.all x F) = Named F
Named (Formula.some x F) = Named F

abbrev pub IsAtom : Formula → Type 0
IsAtom Formula.true = ⊥
IsAtom (Formula.atom p ts) = Unit {0}
IsAtom (Formula.and F G) = ⊥
IsAtom (Formula.or F G) = ⊥
IsAtom (Formula.implies F G) = ⊥
IsAtom (Formula.all x F) = ⊥
IsAtom (Formula.some x F) = ⊥

-- goals: `$true`; an atom; G & G; G | G; `?` G; `!` G; D => G. Clauses: an atom; G => atom; `!` D; D & D
abbrev mutual
  pub IsGoal : Formula → Type 0
  IsGoal Formula.true = Unit {0}
  IsGoal (Formula.atom p ts) = Unit {0}
  IsGoal (Formula.and F G) = IsGoal F × IsGoal G
  IsGoal (Formula.or F G) = IsGoal F × IsGoal G
  IsGoal (Formula.implies F G) = IsClause F × IsGoal G
  IsGoal (Formula.all x F) = IsGoal F
  IsGoal (Formula.some x F) = IsGoal F

  pub IsClause : Formula → Type 0
  IsClause Formula.true = ⊥
  IsClause (Formula.atom p ts) = Unit {0}
  IsClause (Formula.and F G) = IsClause F × IsClause G
  IsClause (Formula.or F G) = ⊥
  IsClause (Formula.implies F G) = IsGoal F × IsAtom G
  IsClause (Formula.all x F) = IsClause F
  IsClause (Formula.some x F) = ⊥

-- an axiom is a clause, a conjecture a goal
abbrev pub Fits : Role → Formula → Type 0
Fits Role.as_axiom F = IsClause F
Fits Role.as_conjecture F = IsGoal F

pub record InPart (l : Line) : Type 0 where
  pub labelled : NameWords l.label
  pub closed : Closed l.formula
  pub named : Named l.formula
  pub fits : Fits l.role l.formula

-- the formulas of the axioms, and of the conjectures, each in file order
abbrev pub axiom_then : Role → Formula → List Formula → List Formula
axiom_then Role.as_axiom F Fs = F ∷ Fs
axiom_then Role.as_conjecture F Fs = Fs

abbrev pub conjecture_then : Role → Formula → List Formula → List Formula
conjecture_then Role.as_axiom F Fs = Fs
conjecture_then Role.as_conjecture F Fs = F ∷ Fs

abbrev pub axioms : List Line → List Formula
axioms [] = []
axioms (l ∷ ls) = axiom_then l.role l.formula (axioms ls)

abbrev pub conjectures : List Line → List Formula
conjectures [] = []
conjectures (l ∷ ls) = conjecture_then l.role l.formula (conjectures ls)

-- a book in the part: every line is, and exactly one is a conjecture
pub record BookInPart (ls : List Line) : Type 0 where
  pub lines : Each InPart ls
  pub one : length (conjectures ls) ≡ 1
