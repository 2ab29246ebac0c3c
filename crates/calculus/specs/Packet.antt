-- The signature of a packet: the symbols of rules, goal and terms, and no parameter (document 01, "What the desk judges").
-- And a formula's free variables and parameters, as crate `harrop` (Scoped) has them of goals and clauses.
use Rattle.std.specs.Prelude.{ℕ, suc, length}
use mathlib.Core.List.{List, [], ◌∷◌, ◌++◌, map, Memᴰ}
use Rattle.harrop.specs.Formula.{Term, Terms, Atom, Goal, Clause}
use Rattle.harrop.specs.Place.{Plain}
use Rattle.harrop.specs.Scoped.{AtomWithin}
use Rattle.calculus.specs.Formula.{Formula}
use Rattle.calculus.specs.Signature.{Symbols, Signature}
use Rattle.calculus.specs.Symbol.{Symbol, count, predicate_of}
use Rattle.calculus.specs.Translation.{goal_formula, clause_formula}

-- the functions in a term, each as often as it stands there
abbrev mutual
  pub functions_in : Term → List Symbol
  functions_in (Term.v i) = []
  functions_in (Term.f g ts) = (g, count ts) ∷ functions_in_all ts
  functions_in (Term.e k) = []

  pub functions_in_all : Terms → List Symbol
  functions_in_all Terms.nil = []
  functions_in_all (Terms.cons t ts) = functions_in t ++ functions_in_all ts

-- what the atoms of a formula hold, in order
abbrev pub of_atoms : {S A : Type 0} → (Atom → List A) → Formula S → List A
of_atoms h (Formula.atom a) = h a
of_atoms h Formula.top = []
of_atoms h Formula.bottom = []
of_atoms h (Formula.and B C) = of_atoms h B ++ of_atoms h C
of_atoms h (Formula.or B C) = of_atoms h B ++ of_atoms h C
of_atoms h (Formula.implies B C) = of_atoms h B ++ of_atoms h C
of_atoms h (Formula.all s B) = of_atoms h B
of_atoms h (Formula.some s B) = of_atoms h B

abbrev pub atom_functions : Atom → List Symbol
atom_functions (Atom.atom p ts) = functions_in_all ts

abbrev pub atom_predicates : Atom → List Symbol
atom_predicates a = predicate_of a ∷ []

-- the same of every member of a list, one after the other
abbrev pub of_each : {A B : Type 0} → (A → List B) → List A → List B
of_each h [] = []
of_each h (x ∷ xs) = h x ++ of_each h xs

-- goal and rules as formulas, the goal first
abbrev pub formulas_of : {Q : Type 0} → List (Clause Q) → Goal Q → List (Formula Q)
formulas_of ds g = goal_formula g ∷ map clause_formula ds

-- of one sort, where a symbol is a name with its number of arguments: these functions and these predicates
abbrev pub plain : (Symbol → Type 0) → (Symbol → Type 0) → Symbols Plain
plain F P = record { function = λ f ss s. F (f, length ss); predicate = λ p ss. P (p, length ss) }

-- the functions and the predicates of a packet
abbrev pub packet_functions : List (Clause Plain) → Goal Plain → List Term → List Symbol
packet_functions ds g ts = of_each functions_in ts ++ of_each (of_atoms atom_functions) (formulas_of ds g)

abbrev pub packet_predicates : List (Clause Plain) → Goal Plain → List Symbol
packet_predicates ds g = of_each (of_atoms atom_predicates) (formulas_of ds g)

abbrev pub packet_symbols : List (Clause Plain) → Goal Plain → List Term → Symbols Plain
packet_symbols ds g ts = plain (λ x. Memᴰ x (packet_functions ds g ts)) (λ x. Memᴰ x (packet_predicates ds g))

abbrev pub packet_signature : List (Clause Plain) → Goal Plain → List Term → Signature Plain
packet_signature ds g ts = record { symbols = packet_symbols ds g ts; parameters = [] }

-- every variable is below n, with the quantifiers on the way to it counted in, and P holds of every parameter
abbrev pub FormulaWithin : {S : Type 0} → (ℕ → Type 0) → ℕ → Formula S → Type 0
FormulaWithin P n (Formula.atom a) = AtomWithin P n a
FormulaWithin P n Formula.top = Unit {0}
FormulaWithin P n Formula.bottom = Unit {0}
FormulaWithin P n (Formula.and B C) = FormulaWithin P n B × FormulaWithin P n C
FormulaWithin P n (Formula.or B C) = FormulaWithin P n B × FormulaWithin P n C
FormulaWithin P n (Formula.implies B C) = FormulaWithin P n B × FormulaWithin P n C
FormulaWithin P n (Formula.all s B) = FormulaWithin P (suc n) B
FormulaWithin P n (Formula.some s B) = FormulaWithin P (suc n) B

-- no free variable, no parameter
abbrev pub Closed : {S : Type 0} → Formula S → Type 0
Closed B = FormulaWithin (λ k. ⊥) 0 B
