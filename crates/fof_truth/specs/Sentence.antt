-- What a line becomes (document 02, One): an axiom a rule, a conjecture a goal, where its formula is a clause or a goal of document 01 as it stands, and its label one of document 01's names.
-- Else there is nothing, and the book is refusal 13.
use Rattle.std.specs.Prelude.{[]}
use Rattle.std.proofs.Math.Option.{Option, none, some}
use Rattle.basics.specs.Choice.{◌>>=◌, provided}
use Rattle.harrop.specs.Formula.{Atom, Goal, Clause}
use Rattle.harrop.specs.Place.{Plain}
use Rattle.sexp.specs.Words.{is_name}
use Rattle.calculus.specs.Formula as numbered
use Rattle.calculus.specs.Translation.{goal_formula, clause_formula}
use Rattle.fof_truth.specs.Formula.{Role, Line}
use Rattle.fof_truth.specs.Numbered.{formula_in}

-- the head of an implication is an atom
abbrev pub as_atom : numbered.Formula Plain → Option Atom
as_atom (numbered.Formula.atom a) = some a
as_atom numbered.Formula.top = none
as_atom numbered.Formula.bottom = none
as_atom (numbered.Formula.and B C) = none
as_atom (numbered.Formula.or B C) = none
as_atom (numbered.Formula.implies B C) = none
as_atom (numbered.Formula.all q B) = none
as_atom (numbered.Formula.some q B) = none

-- the goal, or the clause, that a formula is
abbrev mutual
  pub as_goal : numbered.Formula Plain → Option (Goal Plain)
  as_goal (numbered.Formula.atom a) = some (Goal.atom a)
  as_goal numbered.Formula.top = some Goal.top
  as_goal numbered.Formula.bottom = none
  as_goal (numbered.Formula.and B C) = as_goal B >>= λ g. as_goal C >>= λ h. some (Goal.and g h)
  as_goal (numbered.Formula.or B C) = as_goal B >>= λ g. as_goal C >>= λ h. some (Goal.or g h)
  as_goal (numbered.Formula.implies B C) = as_clause B >>= λ d. as_goal C >>= λ g. some (Goal.imp d g)
  as_goal (numbered.Formula.all q B) = as_goal B >>= λ g. some (Goal.all q g)
  as_goal (numbered.Formula.some q B) = as_goal B >>= λ g. some (Goal.some q g)

  pub as_clause : numbered.Formula Plain → Option (Clause Plain)
  as_clause (numbered.Formula.atom a) = some (Clause.atom_d a)
  as_clause numbered.Formula.top = none
  as_clause numbered.Formula.bottom = none
  as_clause (numbered.Formula.and B C) = as_clause B >>= λ c. as_clause C >>= λ d. some (Clause.and_d c d)
  as_clause (numbered.Formula.or B C) = none
  as_clause (numbered.Formula.implies B C) = as_goal B >>= λ g. as_atom C >>= λ a. some (Clause.imp_d g a)
  as_clause (numbered.Formula.all q B) = as_clause B >>= λ d. some (Clause.all_d q d)
  as_clause (numbered.Formula.some q B) = none

-- what a line becomes
pub data Sentence : Type 0 where
  rule : Clause Plain → Sentence
  goal : Goal Plain → Sentence

-- as a formula of crate `calculus`
abbrev pub sentence_formula : Sentence → numbered.Formula Plain
sentence_formula (Sentence.rule d) = clause_formula d
sentence_formula (Sentence.goal g) = goal_formula g

abbrev pub in_role : Role → numbered.Formula Plain → Option Sentence
in_role Role.as_axiom B = as_clause B >>= λ d. some (Sentence.rule d)
in_role Role.as_conjecture B = as_goal B >>= λ g. some (Sentence.goal g)

abbrev pub sentence_of : Line → Option Sentence
sentence_of l = provided (is_name l.label) (formula_in [] l.formula >>= λ B. in_role l.role B)
