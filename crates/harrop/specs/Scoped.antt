-- Where a variable or a parameter may stand (document 01, "The carrier and the words"), as statements on trees: the variables of rules and goal are bound in them and they hold no `e`;
-- candidates hold no `v`, and parameters count from 1. What a file is refused for, with its place and the limit of 64, is said in crate `packet`.
use Rattle.std.specs.Prelude.{ℕ, suc, ◌≤◌, ◌<◌, List}
use Rattle.basics.specs.Each.{Each}
use Rattle.harrop.specs.Formula.{Term, Terms, Atom, Goal, Clause}

-- every variable is below n, with the quantifiers on the way to it counted in, and P holds of every parameter
abbrev mutual
  pub TermWithin : (ℕ → Type 0) → ℕ → Term → Type 0
  TermWithin P n (Term.v i) = i < n
  TermWithin P n (Term.f g ts) = TermsWithin P n ts
  TermWithin P n (Term.e k) = P k

  pub TermsWithin : (ℕ → Type 0) → ℕ → Terms → Type 0
  TermsWithin P n Terms.nil = Unit {0}
  TermsWithin P n (Terms.cons t ts) = TermWithin P n t × TermsWithin P n ts

abbrev pub AtomWithin : (ℕ → Type 0) → ℕ → Atom → Type 0
AtomWithin P n (Atom.atom p ts) = TermsWithin P n ts

abbrev mutual
  pub GoalWithin : {Q : Type 0} → (ℕ → Type 0) → ℕ → Goal Q → Type 0
  GoalWithin P n Goal.top = Unit {0}
  GoalWithin P n (Goal.atom a) = AtomWithin P n a
  GoalWithin P n (Goal.and g h) = GoalWithin P n g × GoalWithin P n h
  GoalWithin P n (Goal.or g h) = GoalWithin P n g × GoalWithin P n h
  GoalWithin P n (Goal.some q g) = GoalWithin P (suc n) g
  GoalWithin P n (Goal.all q g) = GoalWithin P (suc n) g
  GoalWithin P n (Goal.imp d g) = ClauseWithin P n d × GoalWithin P n g

  pub ClauseWithin : {Q : Type 0} → (ℕ → Type 0) → ℕ → Clause Q → Type 0
  ClauseWithin P n (Clause.atom_d a) = AtomWithin P n a
  ClauseWithin P n (Clause.imp_d g a) = GoalWithin P n g × AtomWithin P n a
  ClauseWithin P n (Clause.all_d q d) = ClauseWithin P (suc n) d
  ClauseWithin P n (Clause.and_d c d) = ClauseWithin P n c × ClauseWithin P n d

-- no free variable and no parameter
abbrev pub ClosedGoal : {Q : Type 0} → Goal Q → Type 0
ClosedGoal g = GoalWithin (λ k. ⊥) 0 g

abbrev pub ClosedClause : {Q : Type 0} → Clause Q → Type 0
ClosedClause d = ClauseWithin (λ k. ⊥) 0 d

-- no variable, parameters from 1 on
abbrev pub Candid : Term → Type 0
Candid t = TermWithin (λ k. 1 ≤ k) 0 t

-- a packet of which all this holds, as it does of every packet that is read
pub record Fair {Q : Type 0} (ds : List (Clause Q)) (g : Goal Q) (ts : List Term) : Type 0 where
  pub rules : Each ClosedClause ds
  pub goal : ClosedGoal g
  pub terms : Each Candid ts
