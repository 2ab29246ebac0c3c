-- A formula is read as a goal or a clause exactly if it is that goal's or that clause's own formula (crate `calculus`, Translation): nothing is rewritten.
use mathlib.Core.Path.{◌≡◌, refl, sym, ◌∙◌, ap, ap₂}
use mathlib.Core.Bool.{true}
use mathlib.Core.List.{[]}
use mathlib.Core.Option.{Option, some, some-injective}
use Rattle.basics.specs.Choice.{◌>>=◌, nope, bind-some, provided-some}
use Rattle.harrop.specs.Formula.{Atom, Goal, Clause}
use Rattle.harrop.specs.Place.{Plain}
use Rattle.sexp.specs.Words.{is_name}
use Rattle.calculus.specs.Formula.{Formula}
use Rattle.calculus.specs.Translation.{goal_formula, clause_formula}
use Rattle.fof_truth.specs.Formula.{Role, Line}
use Rattle.fof_truth.specs.Numbered.{formula_in}
use Rattle.fof_truth.specs.Sentence.{as_atom, as_goal, as_clause, Sentence, sentence_formula, in_role, sentence_of}

pub atom-is : (B : Formula Plain) (a : Atom) → as_atom B ≡ some a → Formula.atom a ≡ B
atom-is (Formula.atom b) a e = ap Formula.atom (sym (some-injective b a e))
atom-is Formula.top a e = nope e
atom-is Formula.bottom a e = nope e
atom-is (Formula.and B C) a e = nope e
atom-is (Formula.or B C) a e = nope e
atom-is (Formula.implies B C) a e = nope e
atom-is (Formula.all q B) a e = nope e
atom-is (Formula.some q B) a e = nope e

-- what two answers make, taken apart
pub record Two {A B C : Type 0} (o : Option A) (p : Option B) (f : A → B → C) (c : C) : Type 0 where
  pub first : A
  pub second : B
  pub is_first : o ≡ some first
  pub is_second : p ≡ some second
  pub makes : f first second ≡ c

pub two-some : {A B C : Type 0} (o : Option A) (p : Option B) (f : A → B → C) (c : C) → (o >>= λ a. p >>= λ b. some (f a b)) ≡ some c → Two o p f c
two-some o p f c e =
    let (a, h, r) = bind-some o (λ a. p >>= λ b. some (f a b)) c e in
    let (b, g, s) = bind-some p (λ b. some (f a b)) c r in
    record { first = a; second = b; is_first = h; is_second = g; makes = some-injective (f a b) c s }

-- what one answer makes
pub record One {A C : Type 0} (o : Option A) (f : A → C) (c : C) : Type 0 where
  pub first : A
  pub is_first : o ≡ some first
  pub makes : f first ≡ c

pub one-some : {A C : Type 0} (o : Option A) (f : A → C) (c : C) → (o >>= λ a. some (f a)) ≡ some c → One o f c
one-some o f c e =
    let (a, h, r) = bind-some o (λ a. some (f a)) c e in
    record { first = a; is_first = h; makes = some-injective (f a) c r }

mutual
  pub goal-is : (B : Formula Plain) (g : Goal Plain) → as_goal B ≡ some g → goal_formula g ≡ B
  goal-is (Formula.atom a) g e = ap goal_formula (sym (some-injective (Goal.atom a) g e))
  goal-is Formula.top g e = ap goal_formula (sym (some-injective Goal.top g e))
  goal-is Formula.bottom g e = nope e
  goal-is (Formula.and B C) g e =
      let t = two-some (as_goal B) (as_goal C) Goal.and g e in
      ap goal_formula (sym t.makes) ∙ ap₂ Formula.and (goal-is B t.first t.is_first) (goal-is C t.second t.is_second)
  goal-is (Formula.or B C) g e =
      let t = two-some (as_goal B) (as_goal C) Goal.or g e in
      ap goal_formula (sym t.makes) ∙ ap₂ Formula.or (goal-is B t.first t.is_first) (goal-is C t.second t.is_second)
  goal-is (Formula.implies B C) g e =
      let t = two-some (as_clause B) (as_goal C) Goal.imp g e in
      ap goal_formula (sym t.makes) ∙ ap₂ Formula.implies (clause-is B t.first t.is_first) (goal-is C t.second t.is_second)
  goal-is (Formula.all q B) g e =
      let t = one-some (as_goal B) (Goal.all q) g e in
      ap goal_formula (sym t.makes) ∙ ap (Formula.all q) (goal-is B t.first t.is_first)
  goal-is (Formula.some q B) g e =
      let t = one-some (as_goal B) (Goal.some q) g e in
      ap goal_formula (sym t.makes) ∙ ap (Formula.some q) (goal-is B t.first t.is_first)

  pub clause-is : (B : Formula Plain) (d : Clause Plain) → as_clause B ≡ some d → clause_formula d ≡ B
  clause-is (Formula.atom a) d e = ap clause_formula (sym (some-injective (Clause.atom_d a) d e))
  clause-is Formula.top d e = nope e
  clause-is Formula.bottom d e = nope e
  clause-is (Formula.and B C) d e =
      let t = two-some (as_clause B) (as_clause C) Clause.and_d d e in
      ap clause_formula (sym t.makes) ∙ ap₂ Formula.and (clause-is B t.first t.is_first) (clause-is C t.second t.is_second)
  clause-is (Formula.or B C) d e = nope e
  clause-is (Formula.implies B C) d e =
      let t = two-some (as_goal B) (as_atom C) Clause.imp_d d e in
      ap clause_formula (sym t.makes) ∙ ap₂ Formula.implies (goal-is B t.first t.is_first) (atom-is C t.second t.is_second)
  clause-is (Formula.all q B) d e =
      let t = one-some (as_clause B) (Clause.all_d q) d e in
      ap clause_formula (sym t.makes) ∙ ap (Formula.all q) (clause-is B t.first t.is_first)
  clause-is (Formula.some q B) d e = nope e

-- and back: every goal and every clause is read from its formula
mutual
  pub is-goal : (g : Goal Plain) → as_goal (goal_formula g) ≡ some g
  is-goal Goal.top = refl
  is-goal (Goal.atom a) = refl
  is-goal (Goal.and g h) = ap₂ (λ (o p : Option (Goal Plain)). o >>= λ x. p >>= λ y. some (Goal.and x y)) (is-goal g) (is-goal h)
  is-goal (Goal.or g h) = ap₂ (λ (o p : Option (Goal Plain)). o >>= λ x. p >>= λ y. some (Goal.or x y)) (is-goal g) (is-goal h)
  is-goal (Goal.some q g) = ap (λ (o : Option (Goal Plain)). o >>= λ x. some (Goal.some q x)) (is-goal g)
  is-goal (Goal.all q g) = ap (λ (o : Option (Goal Plain)). o >>= λ x. some (Goal.all q x)) (is-goal g)
  is-goal (Goal.imp d g) = ap₂ (λ (o : Option (Clause Plain)) (p : Option (Goal Plain)). o >>= λ x. p >>= λ y. some (Goal.imp x y)) (is-clause d) (is-goal g)

  pub is-clause : (d : Clause Plain) → as_clause (clause_formula d) ≡ some d
  is-clause (Clause.atom_d a) = refl
  is-clause (Clause.imp_d g a) = ap (λ (o : Option (Goal Plain)). o >>= λ x. some (Clause.imp_d x a)) (is-goal g)
  is-clause (Clause.all_d q d) = ap (λ (o : Option (Clause Plain)). o >>= λ x. some (Clause.all_d q x)) (is-clause d)
  is-clause (Clause.and_d c d) = ap₂ (λ (o p : Option (Clause Plain)). o >>= λ x. p >>= λ y. some (Clause.and_d x y)) (is-clause c) (is-clause d)

pub sentence-is : (r : Role) (B : Formula Plain) (s : Sentence) → in_role r B ≡ some s → sentence_formula s ≡ B
sentence-is Role.as_axiom B s e =
    let t = one-some (as_clause B) Sentence.rule s e in
    ap sentence_formula (sym t.makes) ∙ clause-is B t.first t.is_first
sentence-is Role.as_conjecture B s e =
    let t = one-some (as_goal B) Sentence.goal s e in
    ap sentence_formula (sym t.makes) ∙ goal-is B t.first t.is_first

-- what a line that becomes a sentence has
pub record Turned (l : Line) (s : Sentence) : Type 0 where
  pub labelled : is_name l.label ≡ true
  pub formula : Formula Plain
  pub numbered : formula_in [] l.formula ≡ some formula
  pub read : in_role l.role formula ≡ some s

pub turned : (l : Line) (s : Sentence) → sentence_of l ≡ some s → Turned l s
turned l s e =
    let (a, h) = provided-some (is_name l.label) (formula_in [] l.formula >>= λ B. in_role l.role B) s e in
    let (B, n, r) = bind-some (formula_in [] l.formula) (λ B. in_role l.role B) s h in
    record { labelled = a; formula = B; numbered = n; read = r }
