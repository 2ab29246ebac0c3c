-- Variable names go (document 02, One): a formula with named variables becomes a formula of crate `calculus`, in which variable i is that of the quantifier i places outward.
-- The nearest quantifier of a name binds it; a quantifier stays even if nothing uses its variable. There is no such formula where a variable is free or where a function or predicate symbol is
-- none of document 01's names. Nothing is rewritten and nothing is simplified.
use Rattle.std.specs.Prelude.{ℕ, suc, List, [], ◌∷◌}
use Rattle.std.proofs.Math.Option.{Option, none, some}
use Rattle.basics.specs.Choice.{choose, ◌>>=◌, provided}
use Rattle.harrop.specs.Formula as plain
use Rattle.harrop.specs.Formula.{Name}
use Rattle.harrop.specs.Bindings.{same_name}
use Rattle.harrop.specs.Place.{Plain}
use Rattle.sexp.specs.Words.{is_name}
use Rattle.calculus.specs.Formula as numbered
use Rattle.fof_truth.specs.Formula.{Term, Terms, Formula}

-- the variables that are bound at a place, the nearest first
abbrev pub Scope : Type 0
Scope = List Name

-- the number of a variable: how many quantifiers stand between it and the nearest one of its name
abbrev pub number_of : Scope → Name → Option ℕ
number_of [] x = none
number_of (y ∷ sc) x = choose (same_name x y) (some 0) (number_of sc x >>= λ i. some (suc i))

abbrev mutual
  pub term_in : Scope → Term → Option plain.Term
  term_in sc (Term.var x) = number_of sc x >>= λ i. some (plain.Term.v i)
  term_in sc (Term.fun g ts) = provided (is_name g) (terms_in sc ts >>= λ us. some (plain.Term.f g us))

  pub terms_in : Scope → Terms → Option plain.Terms
  terms_in sc Terms.nil = some plain.Terms.nil
  terms_in sc (Terms.cons t ts) = term_in sc t >>= λ u. terms_in sc ts >>= λ us. some (plain.Terms.cons u us)

-- a formula with these variables bound around it
abbrev pub formula_in : Scope → Formula → Option (numbered.Formula Plain)
formula_in sc Formula.true = some numbered.Formula.top
formula_in sc (Formula.atom p ts) = provided (is_name p) (terms_in sc ts >>= λ us. some (numbered.Formula.atom (plain.Atom.atom p us)))
formula_in sc (Formula.and F G) = formula_in sc F >>= λ B. formula_in sc G >>= λ C. some (numbered.Formula.and B C)
formula_in sc (Formula.or F G) = formula_in sc F >>= λ B. formula_in sc G >>= λ C. some (numbered.Formula.or B C)
formula_in sc (Formula.implies F G) = formula_in sc F >>= λ B. formula_in sc G >>= λ C. some (numbered.Formula.implies B C)
formula_in sc (Formula.all x F) = formula_in (x ∷ sc) F >>= λ B. some (numbered.Formula.all tt B)
formula_in sc (Formula.some x F) = formula_in (x ∷ sc) F >>= λ B. some (numbered.Formula.some tt B)
