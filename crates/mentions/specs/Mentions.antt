-- Which variables occur in a term, an atom, a goal or a clause: whether one with a property does, and whether variable i does. Under a quantifier variable i is the one before numbered i + 1 (document 01, "Rules, goal, terms").
use Rattle.std.specs.Prelude.{ℕ, zero, suc, Bool, true, false, ◌||◌}
use Rattle.harrop.specs.Formula.{Term, Terms, Atom, Goal, Clause}
use Rattle.harrop.specs.Place.{Plain}

-- the same property of the variables around a quantifier, asked inside it
abbrev pub inside : (ℕ → Bool) → ℕ → Bool
inside p zero = false
inside p (suc i) = p i

-- and asked so many quantifiers inside
abbrev pub insides : ℕ → (ℕ → Bool) → ℕ → Bool
insides zero p i = p i
insides (suc d) p i = inside (insides d p) i

abbrev mutual
  pub mentions_term : (ℕ → Bool) → Term → Bool
  mentions_term p (Term.v i) = p i
  mentions_term p (Term.f g ts) = mentions_terms p ts
  mentions_term p (Term.e k) = false

  pub mentions_terms : (ℕ → Bool) → Terms → Bool
  mentions_terms p Terms.nil = false
  mentions_terms p (Terms.cons t ts) = mentions_term p t || mentions_terms p ts

abbrev pub mentions_atom : (ℕ → Bool) → Atom → Bool
mentions_atom p (Atom.atom n ts) = mentions_terms p ts

abbrev mutual
  pub mentions_goal : (ℕ → Bool) → Goal Plain → Bool
  mentions_goal p Goal.top = false
  mentions_goal p (Goal.atom a) = mentions_atom p a
  mentions_goal p (Goal.and g h) = mentions_goal p g || mentions_goal p h
  mentions_goal p (Goal.or g h) = mentions_goal p g || mentions_goal p h
  mentions_goal p (Goal.some q g) = mentions_goal (inside p) g
  mentions_goal p (Goal.all q g) = mentions_goal (inside p) g
  mentions_goal p (Goal.imp d g) = mentions_clause p d || mentions_goal p g

  pub mentions_clause : (ℕ → Bool) → Clause Plain → Bool
  mentions_clause p (Clause.atom_d a) = mentions_atom p a
  mentions_clause p (Clause.imp_d g a) = mentions_goal p g || mentions_atom p a
  mentions_clause p (Clause.all_d q d) = mentions_clause (inside p) d
  mentions_clause p (Clause.and_d c d) = mentions_clause p c || mentions_clause p d
