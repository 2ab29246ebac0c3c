-- What a goal is made of, asked by its word: each view answers exactly if the goal has that word (document 01, the table of words).
use Rattle.std.proofs.Math.Option.{Option, none, some}
use Rattle.harrop.specs.Formula.{Atom, Goal, Clause}

-- one branch for each word: top, atom, and, or, some, all, imp
abbrev pub by_word : {Q A : Type 0} → A → (Atom → A) → (Goal Q → Goal Q → A) → (Goal Q → Goal Q → A) → (Q → Goal Q → A) → (Q → Goal Q → A) → (Clause Q → Goal Q → A) → Goal Q → A
by_word t a n o s l i Goal.top = t
by_word t a n o s l i (Goal.atom x) = a x
by_word t a n o s l i (Goal.and g h) = n g h
by_word t a n o s l i (Goal.or g h) = o g h
by_word t a n o s l i (Goal.some q g) = s q g
by_word t a n o s l i (Goal.all q g) = l q g
by_word t a n o s l i (Goal.imp d g) = i d g

module _ {Q : Type 0} where
  abbrev pub as_top : Goal Q → Option (Unit {0})
  as_top = by_word (some tt) (λ a. none) (λ g h. none) (λ g h. none) (λ q g. none) (λ q g. none) (λ d g. none)

  abbrev pub as_atom : Goal Q → Option Atom
  as_atom = by_word none (λ a. some a) (λ g h. none) (λ g h. none) (λ q g. none) (λ q g. none) (λ d g. none)

  abbrev pub as_and : Goal Q → Option (Goal Q × Goal Q)
  as_and = by_word none (λ a. none) (λ g h. some (g, h)) (λ g h. none) (λ q g. none) (λ q g. none) (λ d g. none)

  abbrev pub as_or : Goal Q → Option (Goal Q × Goal Q)
  as_or = by_word none (λ a. none) (λ g h. none) (λ g h. some (g, h)) (λ q g. none) (λ q g. none) (λ d g. none)

  abbrev pub as_some : Goal Q → Option (Q × Goal Q)
  as_some = by_word none (λ a. none) (λ g h. none) (λ g h. none) (λ q g. some (q, g)) (λ q g. none) (λ d g. none)

  abbrev pub as_all : Goal Q → Option (Q × Goal Q)
  as_all = by_word none (λ a. none) (λ g h. none) (λ g h. none) (λ q g. none) (λ q g. some (q, g)) (λ d g. none)

  abbrev pub as_imp : Goal Q → Option (Clause Q × Goal Q)
  as_imp = by_word none (λ a. none) (λ g h. none) (λ g h. none) (λ q g. none) (λ q g. none) (λ d g. some (d, g))
