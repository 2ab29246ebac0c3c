-- Which variables occur, where a property is narrowed: what holds no variable with a property holds none with one that fewer variables have.
use Prim.Native.Nat.{ℕ, zero, suc}
use mathlib.Core.Path.{◌≡◌, refl, sym, ap₂}
use mathlib.Core.Bool.{Bool, true, false, ◌||◌, false≢true}
use Rattle.harrop.specs.Formula.{Term, Terms, Atom, Goal, Clause}
use Rattle.harrop.specs.Place.{Plain}
use Rattle.mentions.specs.Mentions.{inside, mentions_term, mentions_terms, mentions_atom, mentions_goal, mentions_clause}

pub or-false : (a b : Bool) → a || b ≡ false → (a ≡ false) × (b ≡ false)
or-false true b e = absurd (false≢true (sym e))
or-false false b e = (refl, e)

-- each variable without the first property is without the second
abbrev pub Fewer : (ℕ → Bool) → (ℕ → Bool) → Type 0
Fewer p q = (i : ℕ) → p i ≡ false → q i ≡ false

inside-fewer : (p q : ℕ → Bool) → Fewer p q → Fewer (inside p) (inside q)
inside-fewer p q h zero e = refl
inside-fewer p q h (suc i) e = h i e

mutual
  term-fewer : (p q : ℕ → Bool) → Fewer p q → (t : Term) → mentions_term p t ≡ false → mentions_term q t ≡ false
  term-fewer p q h (Term.v i) e = h i e
  term-fewer p q h (Term.f g ts) e = terms-fewer p q h ts e
  term-fewer p q h (Term.e k) e = refl

  terms-fewer : (p q : ℕ → Bool) → Fewer p q → (ts : Terms) → mentions_terms p ts ≡ false → mentions_terms q ts ≡ false
  terms-fewer p q h Terms.nil e = refl
  terms-fewer p q h (Terms.cons t ts) e =
      let (a, b) = or-false (mentions_term p t) (mentions_terms p ts) e in
      ap₂ ◌||◌ (term-fewer p q h t a) (terms-fewer p q h ts b)

atom-fewer : (p q : ℕ → Bool) → Fewer p q → (a : Atom) → mentions_atom p a ≡ false → mentions_atom q a ≡ false
atom-fewer p q h (Atom.atom n ts) e = terms-fewer p q h ts e

mutual
  pub goal-fewer : (p q : ℕ → Bool) → Fewer p q → (g : Goal Plain) → mentions_goal p g ≡ false → mentions_goal q g ≡ false
  goal-fewer p q h Goal.top e = refl
  goal-fewer p q h (Goal.atom a) e = atom-fewer p q h a e
  goal-fewer p q h (Goal.and g g') e =
      let (a, b) = or-false (mentions_goal p g) (mentions_goal p g') e in
      ap₂ ◌||◌ (goal-fewer p q h g a) (goal-fewer p q h g' b)
  goal-fewer p q h (Goal.or g g') e =
      let (a, b) = or-false (mentions_goal p g) (mentions_goal p g') e in
      ap₂ ◌||◌ (goal-fewer p q h g a) (goal-fewer p q h g' b)
  goal-fewer p q h (Goal.some r g) e = goal-fewer (inside p) (inside q) (inside-fewer p q h) g e
  goal-fewer p q h (Goal.all r g) e = goal-fewer (inside p) (inside q) (inside-fewer p q h) g e
  goal-fewer p q h (Goal.imp d g) e =
      let (a, b) = or-false (mentions_clause p d) (mentions_goal p g) e in
      ap₂ ◌||◌ (clause-fewer p q h d a) (goal-fewer p q h g b)

  pub clause-fewer : (p q : ℕ → Bool) → Fewer p q → (d : Clause Plain) → mentions_clause p d ≡ false → mentions_clause q d ≡ false
  clause-fewer p q h (Clause.atom_d a) e = atom-fewer p q h a e
  clause-fewer p q h (Clause.imp_d g b) e =
      let (x, y) = or-false (mentions_goal p g) (mentions_atom p b) e in
      ap₂ ◌||◌ (goal-fewer p q h g x) (atom-fewer p q h b y)
  clause-fewer p q h (Clause.all_d r d) e = clause-fewer (inside p) (inside q) (inside-fewer p q h) d e
  clause-fewer p q h (Clause.and_d c d) e =
      let (a, b) = or-false (mentions_clause p c) (mentions_clause p d) e in
      ap₂ ◌||◌ (clause-fewer p q h c a) (clause-fewer p q h d b)

-- nothing holds a variable with a property that none has
abbrev pub Never : (ℕ → Bool) → Type 0
Never p = (i : ℕ) → p i ≡ false

inside-never : (p : ℕ → Bool) → Never p → Never (inside p)
inside-never p h zero = refl
inside-never p h (suc i) = h i

mutual
  term-never : (p : ℕ → Bool) → Never p → (t : Term) → mentions_term p t ≡ false
  term-never p h (Term.v i) = h i
  term-never p h (Term.f g ts) = terms-never p h ts
  term-never p h (Term.e k) = refl

  terms-never : (p : ℕ → Bool) → Never p → (ts : Terms) → mentions_terms p ts ≡ false
  terms-never p h Terms.nil = refl
  terms-never p h (Terms.cons t ts) = ap₂ ◌||◌ (term-never p h t) (terms-never p h ts)

atom-never : (p : ℕ → Bool) → Never p → (a : Atom) → mentions_atom p a ≡ false
atom-never p h (Atom.atom n ts) = terms-never p h ts

mutual
  pub goal-never : (p : ℕ → Bool) → Never p → (g : Goal Plain) → mentions_goal p g ≡ false
  goal-never p h Goal.top = refl
  goal-never p h (Goal.atom a) = atom-never p h a
  goal-never p h (Goal.and g g') = ap₂ ◌||◌ (goal-never p h g) (goal-never p h g')
  goal-never p h (Goal.or g g') = ap₂ ◌||◌ (goal-never p h g) (goal-never p h g')
  goal-never p h (Goal.some r g) = goal-never (inside p) (inside-never p h) g
  goal-never p h (Goal.all r g) = goal-never (inside p) (inside-never p h) g
  goal-never p h (Goal.imp d g) = ap₂ ◌||◌ (clause-never p h d) (goal-never p h g)

  pub clause-never : (p : ℕ → Bool) → Never p → (d : Clause Plain) → mentions_clause p d ≡ false
  clause-never p h (Clause.atom_d a) = atom-never p h a
  clause-never p h (Clause.imp_d g b) = ap₂ ◌||◌ (goal-never p h g) (atom-never p h b)
  clause-never p h (Clause.all_d r d) = clause-never (inside p) (inside-never p h) d
  clause-never p h (Clause.and_d c d) = ap₂ ◌||◌ (clause-never p h c) (clause-never p h d)
