-- Signatures, and when a term has a sort over one (document 004, section 2: a signature is a set of constants with their types; the typing rules).
-- Symbols are any set of functions and predicates, each a name with the sorts of its arguments; parameters are any finite set of numbers with their sorts: of the list only
-- membership matters. Left out: types other than sorts, and functions from them to a sort or to a truth value.
use Rattle.std.specs.Prelude.{ℕ, ◌≡◌}
use mathlib.Core.List.{List, [], ◌∷◌, Memᴰ}
use Rattle.std.proofs.Math.Option.{some}
use Rattle.std.proofs.Math.ListN.{get_elem?}
use Rattle.basics.specs.Each.{Each}
use Rattle.harrop.specs.Formula.{Name, Term, Terms, Atom}
use Rattle.calculus.specs.Formula.{Formula}

-- function g ss s: the function g takes arguments of the sorts ss to the sort s; predicate p ss: the predicate p takes arguments of the sorts ss
pub record Symbols (S : Type 0) : Type 1 where
  pub function : Name → List S → S → Type 0
  pub predicate : Name → List S → Type 0

pub record Signature (S : Type 0) : Type 1 where
  pub symbols : Symbols S
  pub parameters : List (ℕ × S)

module _ {S : Type 0} where
  -- the parameter y has the sort s in the signature
  abbrev pub Declares : Signature S → ℕ → S → Type 0
  Declares Σ y s = Memᴰ (y, s) Σ.parameters

  -- a parameter that is not in the signature
  abbrev pub Fresh : Signature S → ℕ → Type 0
  Fresh Σ y = (s : S) → Declares Σ y s → ⊥

  -- y : s, Σ
  abbrev pub declare : ℕ → S → Signature S → Signature S
  declare y s Σ = record { symbols = Σ.symbols; parameters = (y, s) ∷ Σ.parameters }

  -- HasSort Σ vs t s: by all its symbols and parameters, t has the sort s over Σ, where its variables have the sorts vs, the nearest first
  abbrev mutual
    pub HasSort : Signature S → List S → Term → S → Type 0
    HasSort Σ vs (Term.v i) s = get_elem? vs i ≡ some s
    HasSort Σ vs (Term.f g ts) s = (ss : List S) × (Σ.symbols.function g ss s) × HaveSorts Σ vs ts ss
    HasSort Σ vs (Term.e k) s = Declares Σ k s

    pub HaveSorts : Signature S → List S → Terms → List S → Type 0
    HaveSorts Σ vs Terms.nil [] = Unit {0}
    HaveSorts Σ vs Terms.nil (s ∷ ss) = ⊥
    HaveSorts Σ vs (Terms.cons t ts) [] = ⊥
    HaveSorts Σ vs (Terms.cons t ts) (s ∷ ss) = HasSort Σ vs t s × HaveSorts Σ vs ts ss

  -- Σ ⊢ t : s, for a term with no variable
  abbrev pub Has : Signature S → Term → S → Type 0
  Has Σ t s = HasSort Σ [] t s

  -- an atom, and a formula, is over Σ where its free variables have the sorts vs
  abbrev pub AtomOver : Signature S → List S → Atom → Type 0
  AtomOver Σ vs (Atom.atom p ts) = (ss : List S) × (Σ.symbols.predicate p ss) × HaveSorts Σ vs ts ss

  abbrev pub FormulaOver : Signature S → List S → Formula S → Type 0
  FormulaOver Σ vs (Formula.atom a) = AtomOver Σ vs a
  FormulaOver Σ vs Formula.top = Unit {0}
  FormulaOver Σ vs Formula.bottom = Unit {0}
  FormulaOver Σ vs (Formula.and B C) = FormulaOver Σ vs B × FormulaOver Σ vs C
  FormulaOver Σ vs (Formula.or B C) = FormulaOver Σ vs B × FormulaOver Σ vs C
  FormulaOver Σ vs (Formula.implies B C) = FormulaOver Σ vs B × FormulaOver Σ vs C
  FormulaOver Σ vs (Formula.all s B) = FormulaOver Σ (s ∷ vs) B
  FormulaOver Σ vs (Formula.some s B) = FormulaOver Σ (s ∷ vs) B

  -- a formula of a sequent is over its signature, with no free variable
  abbrev pub Over : Signature S → Formula S → Type 0
  Over Σ B = FormulaOver Σ [] B

  -- Σ : Γ → C is a sequent: all its formulas are well-typed, given Σ
  pub record IsSequent (Σ : Signature S) (Γ : List (Formula S)) (C : Formula S) : Type 0 where
    pub left : Each (Over Σ) Γ
    pub right : Over Σ C

-- Σ : Γ → C as one thing
pub record Sequent (S : Type 0) : Type 1 where
  pub signature : Signature S
  pub left : List (Formula S)
  pub right : Formula S

abbrev pub WellTyped : {S : Type 0} → Sequent S → Type 0
WellTyped s = IsSequent s.signature s.left s.right
