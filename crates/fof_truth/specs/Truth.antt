-- Truth in a structure: a domain, a meaning for each function and predicate symbol, and what the variables stand for (document 02, One: "true in the same structures").
-- A symbol is a name with its number of arguments: a meaning takes the list of the arguments, so the same name may mean something else with another number of them.
-- What "or" and "there is" mean is not settled here once for all: truth is over a logic, which says what each connective makes of the truth of its parts. Two logics are named: the one in
-- which a truth is its evidence, and the classical one. The truth of a formula with named variables and that of a formula of crate `calculus` are over the same logic and the same structure.
use Rattle.std.specs.Prelude.{ℕ, zero, suc, List, [], ◌∷◌, ◌⊎◌}
use Rattle.basics.specs.Choice.{choose}
use Rattle.harrop.specs.Formula as plain
use Rattle.harrop.specs.Formula.{Name}
use Rattle.harrop.specs.Bindings.{same_name}
use Rattle.calculus.specs.Formula as numbered
use Rattle.fof_truth.specs.Formula.{Term, Terms, Formula}

-- truth values, and what each connective makes of them
pub record Logic : Type 2 where
  pub Value : Type 1
  pub top : Value
  pub bottom : Value
  pub and : Value → Value → Value
  pub or : Value → Value → Value
  pub implies : Value → Value → Value
  pub all : {D : Type 0} → (D → Value) → Value
  pub some : {D : Type 0} → (D → Value) → Value

-- a truth is the type of its evidence: for an "or" one of the two and which, for a "there is" an element and what is said of it
abbrev pub evident : Logic
evident =
    record {
      Value = Type 0;
      top = Unit {0};
      bottom = ⊥;
      and = λ A B. A × B;
      or = λ A B. A ⊎ B;
      implies = λ A B. A → B;
      all = λ {D} P. (x : D) → P x;
      some = λ {D} P. (x : D) × P x;
    }

-- classical: "or" is that not both fail, "there is" that not all fail; a structure whose predicates hold where they do not fail is one of the two-valued ones
abbrev pub classical : Logic
classical =
    record {
      Value = Type 0;
      top = Unit {0};
      bottom = ⊥;
      and = λ A B. A × B;
      or = λ A B. ¬ (¬ A × ¬ B);
      implies = λ A B. A → B;
      all = λ {D} P. (x : D) → P x;
      some = λ {D} P. ¬ ((x : D) → ¬ (P x));
    }

-- a domain (never empty, since a function of no arguments is in it), and a meaning for each symbol
pub record Structure (W : Type 1) : Type 1 where
  pub Domain : Type 0
  pub function : Name → List Domain → Domain
  pub predicate : Name → List Domain → W

-- d for the variable x, the others as before
abbrev pub setting : {D : Type 0} → Name → D → (Name → D) → Name → D
setting x d ρ y = choose (same_name y x) d (ρ y)

-- d for the nearest variable, the others one place further out
abbrev pub before : {D : Type 0} → D → (ℕ → D) → ℕ → D
before d σ zero = d
before d σ (suc i) = σ i

module _ {W : Type 1} (S : Structure W) where
  -- the element that a term stands for, where ρ says what the variables stand for
  abbrev mutual
    pub value_of : (Name → S.Domain) → Term → S.Domain
    value_of ρ (Term.var x) = ρ x
    value_of ρ (Term.fun g ts) = S.function g (values_of ρ ts)

    pub values_of : (Name → S.Domain) → Terms → List S.Domain
    values_of ρ Terms.nil = []
    values_of ρ (Terms.cons t ts) = value_of ρ t ∷ values_of ρ ts

  -- the same of document 01's terms, where σ says what the variables stand for, 0 the nearest, and π what the parameters do
  abbrev mutual
    pub plain_value : (ℕ → S.Domain) → (ℕ → S.Domain) → plain.Term → S.Domain
    plain_value π σ (plain.Term.v i) = σ i
    plain_value π σ (plain.Term.f g ts) = S.function g (plain_values π σ ts)
    plain_value π σ (plain.Term.e k) = π k

    pub plain_values : (ℕ → S.Domain) → (ℕ → S.Domain) → plain.Terms → List S.Domain
    plain_values π σ plain.Terms.nil = []
    plain_values π σ (plain.Terms.cons t ts) = plain_value π σ t ∷ plain_values π σ ts

  abbrev pub plain_atom : (ℕ → S.Domain) → (ℕ → S.Domain) → plain.Atom → W
  plain_atom π σ (plain.Atom.atom p ts) = S.predicate p (plain_values π σ ts)

module _ (L : Logic) (S : Structure L.Value) where
  -- the truth of a formula with named variables
  abbrev pub truth : (Name → S.Domain) → Formula → L.Value
  truth ρ Formula.true = L.top
  truth ρ (Formula.atom p ts) = S.predicate p (values_of S ρ ts)
  truth ρ (Formula.and F G) = L.and (truth ρ F) (truth ρ G)
  truth ρ (Formula.or F G) = L.or (truth ρ F) (truth ρ G)
  truth ρ (Formula.implies F G) = L.implies (truth ρ F) (truth ρ G)
  truth ρ (Formula.all x F) = L.all λ d. truth (setting x d ρ) F
  truth ρ (Formula.some x F) = L.some λ d. truth (setting x d ρ) F

  -- the truth of a formula of crate `calculus`; what a quantifier carries plays no part
  abbrev pub plain_truth : {Q : Type 0} → (ℕ → S.Domain) → (ℕ → S.Domain) → numbered.Formula Q → L.Value
  plain_truth π σ (numbered.Formula.atom a) = plain_atom S π σ a
  plain_truth π σ numbered.Formula.top = L.top
  plain_truth π σ numbered.Formula.bottom = L.bottom
  plain_truth π σ (numbered.Formula.and B C) = L.and (plain_truth π σ B) (plain_truth π σ C)
  plain_truth π σ (numbered.Formula.or B C) = L.or (plain_truth π σ B) (plain_truth π σ C)
  plain_truth π σ (numbered.Formula.implies B C) = L.implies (plain_truth π σ B) (plain_truth π σ C)
  plain_truth π σ (numbered.Formula.all q B) = L.all λ d. plain_truth π (before d σ) B
  plain_truth π σ (numbered.Formula.some q B) = L.some λ d. plain_truth π (before d σ) B
