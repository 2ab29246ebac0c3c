-- What it is to be built from the table of words (document 01): to be a term, a goal, a strip and so on, written, whose every name and number is one of document 01's.
-- A name is one by is_name; a number of one to three digits says at most 999.
use Rattle.std.specs.Prelude.{ℕ, ◌≤◌, ◌≡◌, true, List, [], ◌∷◌}
use Rattle.basics.specs.Each.{Each}
use Rattle.harrop.specs.Formula.{Name, Term, Terms, Atom, Goal, Clause, Step, Strip}
use Rattle.harrop.specs.Place.{Plain}
use Rattle.sexp.specs.Sexp.{Sexp}
use Rattle.sexp.specs.Words.{is_name}
use Rattle.packet.specs.declared.Kind.{Kind}
use Rattle.packet.specs.declared.Kind.TheVariants as K
use Rattle.packet.specs.Written.{number, term_sexp, atom_sexp, goal_sexp, clause_sexp, step_sexp, path_sexp, strip_sexp, rules_sexp, terms_sexp}

abbrev pub NameWords : Name → Type 0
NameWords w = is_name w ≡ true

abbrev pub NumberWords : ℕ → Type 0
NumberWords i = i ≤ 999

abbrev mutual
  pub TermWords : Term → Type 0
  TermWords (Term.v i) = NumberWords i
  TermWords (Term.f g ts) = NameWords g × TermsWords ts
  TermWords (Term.e k) = NumberWords k

  pub TermsWords : Terms → Type 0
  TermsWords Terms.nil = Unit {0}
  TermsWords (Terms.cons t ts) = TermWords t × TermsWords ts

abbrev pub AtomWords : Atom → Type 0
AtomWords (Atom.atom p ts) = NameWords p × TermsWords ts

abbrev mutual
  pub GoalWords : Goal Plain → Type 0
  GoalWords Goal.top = Unit {0}
  GoalWords (Goal.atom a) = AtomWords a
  GoalWords (Goal.and g h) = GoalWords g × GoalWords h
  GoalWords (Goal.or g h) = GoalWords g × GoalWords h
  GoalWords (Goal.some q g) = GoalWords g
  GoalWords (Goal.all q g) = GoalWords g
  GoalWords (Goal.imp d g) = ClauseWords d × GoalWords g

  pub ClauseWords : Clause Plain → Type 0
  ClauseWords (Clause.atom_d a) = AtomWords a
  ClauseWords (Clause.imp_d g a) = GoalWords g × AtomWords a
  ClauseWords (Clause.all_d q d) = ClauseWords d
  ClauseWords (Clause.and_d c d) = ClauseWords c × ClauseWords d

abbrev pub StepWords : Step → Type 0
StepWords Step.l = Unit {0}
StepWords Step.r = Unit {0}
StepWords (Step.n i) = NumberWords i

abbrev pub StripWords : Strip → Type 0
StripWords Strip.top = Unit {0}
StripWords (Strip.and P R) = StripWords P × StripWords R
StripWords (Strip.left P) = StripWords P
StripWords (Strip.right P) = StripWords P
StripWords (Strip.some i P) = NumberWords i × StripWords P
StripWords (Strip.all P) = StripWords P
StripWords (Strip.imp P) = StripWords P
StripWords (Strip.use₀ k path) = NumberWords k × Each StepWords path
StripWords (Strip.use₁ k path P) = NumberWords k × Each StepWords path × StripWords P

-- an expression is something, written, with document 01's words
abbrev pub Is : {A : Type 0} → (A → Sexp) → (A → Type 0) → Sexp → Type 0
Is {A} written Words e = (a : A) × (e ≡ written a) × Words a

-- an expression is something of this kind
abbrev pub Spells : Kind → Sexp → Type 0
Spells K.Name = Is Sexp.str NameWords
Spells K.Number = Is number NumberWords
Spells K.Step = Is step_sexp StepWords
Spells K.Path = Is path_sexp (Each StepWords)
Spells K.Term = Is term_sexp TermWords
Spells K.Atom = Is atom_sexp AtomWords
Spells K.Goal = Is goal_sexp GoalWords
Spells K.Clause = Is clause_sexp ClauseWords
Spells K.Rules = Is rules_sexp (Each ClauseWords)
Spells K.Terms = Is terms_sexp (Each TermWords)
Spells K.Strip = Is strip_sexp StripWords
