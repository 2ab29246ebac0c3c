-- Goals are exactly document 003's G3 formulas and clauses its D3 formulas: every goal or clause translates into one, and every one is the translation of exactly one.
use mathlib.Core.Path.{◌≡◌, refl, sym, ◌∙◌, ap, ap₂}
use mathlib.Core.List.{[]}
use Rattle.harrop.specs.Formula.{Terms, Atom, Goal, Clause}
use Rattle.calculus.specs.Formula.{Formula}
use Rattle.calculus.specs.Translation.{goal_formula, clause_formula}
use Rattle.calculus.specs.Classes.{G3, D3}

module _ {S : Type 0} where
  mutual
    pub goal-is-G3 : (g : Goal S) → G3 (goal_formula g)
    goal-is-G3 Goal.top = G3.top
    goal-is-G3 (Goal.atom a) = G3.atom
    goal-is-G3 (Goal.and g h) = G3.and (goal-is-G3 g) (goal-is-G3 h)
    goal-is-G3 (Goal.or g h) = G3.or (goal-is-G3 g) (goal-is-G3 h)
    goal-is-G3 (Goal.some q g) = G3.some (goal-is-G3 g)
    goal-is-G3 (Goal.all q g) = G3.all (goal-is-G3 g)
    goal-is-G3 (Goal.imp d g) = G3.implies (clause-is-D3 d) (goal-is-G3 g)

    pub clause-is-D3 : (d : Clause S) → D3 (clause_formula d)
    clause-is-D3 (Clause.atom_d a) = D3.atom_d
    clause-is-D3 (Clause.imp_d g a) = D3.implies_d (goal-is-G3 g)
    clause-is-D3 (Clause.all_d q d) = D3.all_d (clause-is-D3 d)
    clause-is-D3 (Clause.and_d c d) = D3.and_d (clause-is-D3 c) (clause-is-D3 d)

  -- the goal, or the clause, that translates into B
  abbrev pub OfGoal : Formula S → Type 0
  OfGoal B = (g : Goal S) × (goal_formula g ≡ B)

  abbrev pub OfClause : Formula S → Type 0
  OfClause B = (d : Clause S) × (clause_formula d ≡ B)

  mutual
    pub G3-is-goal : {B : Formula S} → G3 B → OfGoal B
    G3-is-goal G3.top = (Goal.top, refl)
    G3-is-goal (G3.atom {a = a}) = (Goal.atom a, refl)
    G3-is-goal (G3.and x y) = let (g, e) = G3-is-goal x in let (h, e₁) = G3-is-goal y in (Goal.and g h, ap₂ Formula.and e e₁)
    G3-is-goal (G3.or x y) = let (g, e) = G3-is-goal x in let (h, e₁) = G3-is-goal y in (Goal.or g h, ap₂ Formula.or e e₁)
    G3-is-goal (G3.all {s = s} x) = let (g, e) = G3-is-goal x in (Goal.all s g, ap (Formula.all s) e)
    G3-is-goal (G3.some {s = s} x) = let (g, e) = G3-is-goal x in (Goal.some s g, ap (Formula.some s) e)
    G3-is-goal (G3.implies x y) = let (d, e) = D3-is-clause x in let (g, e₁) = G3-is-goal y in (Goal.imp d g, ap₂ Formula.implies e e₁)

    pub D3-is-clause : {B : Formula S} → D3 B → OfClause B
    D3-is-clause (D3.atom_d {a = a}) = (Clause.atom_d a, refl)
    D3-is-clause (D3.implies_d {a = a} x) = let (g, e) = G3-is-goal x in (Clause.imp_d g a, ap (λ (G : Formula S). Formula.implies G (Formula.atom a)) e)
    D3-is-clause (D3.all_d {s = s} x) = let (d, e) = D3-is-clause x in (Clause.all_d s d, ap (Formula.all s) e)
    D3-is-clause (D3.and_d x y) = let (c, e) = D3-is-clause x in let (d, e₁) = D3-is-clause y in (Clause.and_d c d, ap₂ Formula.and e e₁)

-- back from a formula; where it is no goal or no clause, some other
abbrev no_atom : Atom
no_atom = Atom.atom [] Terms.nil

abbrev atom_of : {S : Type 0} → Formula S → Atom
atom_of (Formula.atom a) = a
atom_of Formula.top = no_atom
atom_of Formula.bottom = no_atom
atom_of (Formula.and B C) = no_atom
atom_of (Formula.or B C) = no_atom
atom_of (Formula.implies B C) = no_atom
atom_of (Formula.all s B) = no_atom
atom_of (Formula.some s B) = no_atom

abbrev mutual
  goal_of : {S : Type 0} → Formula S → Goal S
  goal_of (Formula.atom a) = Goal.atom a
  goal_of Formula.top = Goal.top
  goal_of Formula.bottom = Goal.top
  goal_of (Formula.and B C) = Goal.and (goal_of B) (goal_of C)
  goal_of (Formula.or B C) = Goal.or (goal_of B) (goal_of C)
  goal_of (Formula.implies B C) = Goal.imp (clause_of B) (goal_of C)
  goal_of (Formula.all s B) = Goal.all s (goal_of B)
  goal_of (Formula.some s B) = Goal.some s (goal_of B)

  clause_of : {S : Type 0} → Formula S → Clause S
  clause_of (Formula.atom a) = Clause.atom_d a
  clause_of Formula.top = Clause.atom_d no_atom
  clause_of Formula.bottom = Clause.atom_d no_atom
  clause_of (Formula.and B C) = Clause.and_d (clause_of B) (clause_of C)
  clause_of (Formula.or B C) = Clause.atom_d no_atom
  clause_of (Formula.implies B C) = Clause.imp_d (goal_of B) (atom_of C)
  clause_of (Formula.all s B) = Clause.all_d s (clause_of B)
  clause_of (Formula.some s B) = Clause.atom_d no_atom

mutual
  goal-back : {S : Type 0} (g : Goal S) → goal_of (goal_formula g) ≡ g
  goal-back Goal.top = refl
  goal-back (Goal.atom a) = refl
  goal-back (Goal.and g h) = ap₂ Goal.and (goal-back g) (goal-back h)
  goal-back (Goal.or g h) = ap₂ Goal.or (goal-back g) (goal-back h)
  goal-back (Goal.some q g) = ap (Goal.some q) (goal-back g)
  goal-back (Goal.all q g) = ap (Goal.all q) (goal-back g)
  goal-back (Goal.imp d g) = ap₂ Goal.imp (clause-back d) (goal-back g)

  clause-back : {S : Type 0} (d : Clause S) → clause_of (clause_formula d) ≡ d
  clause-back (Clause.atom_d a) = refl
  clause-back (Clause.imp_d g a) = ap (λ h. Clause.imp_d h a) (goal-back g)
  clause-back (Clause.all_d q d) = ap (Clause.all_d q) (clause-back d)
  clause-back (Clause.and_d c d) = ap₂ Clause.and_d (clause-back c) (clause-back d)

pub one-goal : {S : Type 0} (g h : Goal S) → goal_formula g ≡ goal_formula h → g ≡ h
one-goal g h e = sym (goal-back g) ∙ ap goal_of e ∙ goal-back h

pub one-clause : {S : Type 0} (c d : Clause S) → clause_formula c ≡ clause_formula d → c ≡ d
one-clause c d e = sym (clause-back c) ∙ ap clause_of e ∙ clause-back d
