-- A goal or a clause with its bindings as a formula, and a place as a sequent (document 01, "What the desk judges": rules on the left, goal on the right; each `all` adds a parameter).
use Rattle.std.specs.Prelude.{ℕ, suc, List, [], ◌∷◌, length}
use Rattle.harrop.specs.Formula.{Term, Goal, Clause}
use Rattle.harrop.specs.Bindings.{Bindings, value_of}
use Rattle.harrop.specs.Place.{AtHand, Hand, Place}
use Rattle.calculus.specs.Formula.{Formula}
use Rattle.calculus.specs.Substitution.{in_formula}
use Rattle.calculus.specs.Signature.{Symbols, Signature, Sequent}

abbrev mutual
  pub goal_formula : {Q : Type 0} → Goal Q → Formula Q
  goal_formula Goal.top = Formula.top
  goal_formula (Goal.atom a) = Formula.atom a
  goal_formula (Goal.and g h) = Formula.and (goal_formula g) (goal_formula h)
  goal_formula (Goal.or g h) = Formula.or (goal_formula g) (goal_formula h)
  goal_formula (Goal.some q g) = Formula.some q (goal_formula g)
  goal_formula (Goal.all q g) = Formula.all q (goal_formula g)
  goal_formula (Goal.imp d g) = Formula.implies (clause_formula d) (goal_formula g)

  pub clause_formula : {Q : Type 0} → Clause Q → Formula Q
  clause_formula (Clause.atom_d a) = Formula.atom a
  clause_formula (Clause.imp_d g a) = Formula.implies (goal_formula g) (Formula.atom a)
  clause_formula (Clause.all_d q d) = Formula.all q (clause_formula d)
  clause_formula (Clause.and_d c d) = Formula.and (clause_formula c) (clause_formula d)

-- the open parameters with their sorts: the latest first, numbered from 1
abbrev pub parameters_of : {Q : Type 0} → List Q → List (ℕ × Q)
parameters_of [] = []
parameters_of (q ∷ o) = (suc (length o), q) ∷ parameters_of o

module _ {Q : Type 0} where
  -- the signature at a place: these symbols and the open parameters
  abbrev pub signature_at : Symbols Q → List Q → Signature Q
  signature_at Y o = record { symbols = Y; parameters = parameters_of o }

  module _ (terms : List Term) where
    -- a formula, its variables as they stand
    abbrev pub standing : Bindings → Formula Q → Formula Q
    standing bs B = in_formula (value_of terms bs) B

    -- a clause at hand, and the left side of a place's sequent
    abbrev pub standing_clause : AtHand Q → Formula Q
    standing_clause d = standing d.bindings (clause_formula d.clause)

    abbrev pub left_of : Hand Q → List (Formula Q)
    left_of [] = []
    left_of (d ∷ c) = standing_clause d ∷ left_of c

    abbrev pub right_of : Bindings → Goal Q → Formula Q
    right_of bs g = standing bs (goal_formula g)

    -- the sequent of a place
    abbrev pub sequent_at : Symbols Q → Place Q → Sequent Q
    sequent_at Y pl = record {
      signature = signature_at Y pl.opened;
      left = left_of pl.hand;
      right = right_of pl.bindings pl.goal;
    }
