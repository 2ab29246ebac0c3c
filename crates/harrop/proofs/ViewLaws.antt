-- Each view of a goal answers only of a goal with that word (Views). One principle takes a goal apart; each view's law is one line.
use mathlib.Core.Path.{◌≡◌, refl, ap}
use mathlib.Core.Option.{Option, some, some-injective}
use Rattle.basics.specs.Choice.{nope}
use Rattle.harrop.specs.Formula.{Atom, Goal, Clause}
use Rattle.harrop.specs.Views.{as_top, as_atom, as_and, as_or, as_some, as_all, as_imp}

-- what holds of a goal of each word holds of every goal
pub goal-cases : {Q : Type 0} (M : Goal Q → Type 0) → M Goal.top → ((a : Atom) → M (Goal.atom a)) → ((g h : Goal Q) → M (Goal.and g h)) → ((g h : Goal Q) → M (Goal.or g h)) → ((q : Q) (g : Goal Q) → M (Goal.some q g)) → ((q : Q) (g : Goal Q) → M (Goal.all q g)) → ((d : Clause Q) (g : Goal Q) → M (Goal.imp d g)) → (g : Goal Q) → M g
goal-cases M t a n o s l i Goal.top = t
goal-cases M t a n o s l i (Goal.atom x) = a x
goal-cases M t a n o s l i (Goal.and g h) = n g h
goal-cases M t a n o s l i (Goal.or g h) = o g h
goal-cases M t a n o s l i (Goal.some q g) = s q g
goal-cases M t a n o s l i (Goal.all q g) = l q g
goal-cases M t a n o s l i (Goal.imp d g) = i d g

-- a view answers only of goals that are built back from what it answers
abbrev Of : {Q A : Type 0} → (Goal Q → Option A) → (A → Goal Q) → Goal Q → Type 0
Of {A = A} view back g = (x : A) → view g ≡ some x → g ≡ back x

module _ {Q : Type 0} where
  pub is-top : (g : Goal Q) (x : Unit {0}) → as_top g ≡ some x → g ≡ Goal.top
  is-top = goal-cases (Of as_top λ x. Goal.top) (λ x e. refl) (λ a x e. nope e) (λ g h x e. nope e) (λ g h x e. nope e) (λ q g x e. nope e) (λ q g x e. nope e) (λ d g x e. nope e)

  pub is-atom : (g : Goal Q) (x : Atom) → as_atom g ≡ some x → g ≡ Goal.atom x
  is-atom = goal-cases (Of as_atom Goal.atom) (λ x e. nope e) (λ a x e. ap Goal.atom (some-injective a x e)) (λ g h x e. nope e) (λ g h x e. nope e) (λ q g x e. nope e) (λ q g x e. nope e) (λ d g x e. nope e)

  pub is-and : (g : Goal Q) (x : Goal Q × Goal Q) → as_and g ≡ some x → g ≡ Goal.and x.0 x.1
  is-and = goal-cases (Of as_and λ x. Goal.and x.0 x.1) (λ x e. nope e) (λ a x e. nope e) (λ g h x e. ap (λ (y : Goal Q × Goal Q). Goal.and y.0 y.1) (some-injective (g, h) x e)) (λ g h x e. nope e) (λ q g x e. nope e) (λ q g x e. nope e) (λ d g x e. nope e)

  pub is-or : (g : Goal Q) (x : Goal Q × Goal Q) → as_or g ≡ some x → g ≡ Goal.or x.0 x.1
  is-or = goal-cases (Of as_or λ x. Goal.or x.0 x.1) (λ x e. nope e) (λ a x e. nope e) (λ g h x e. nope e) (λ g h x e. ap (λ (y : Goal Q × Goal Q). Goal.or y.0 y.1) (some-injective (g, h) x e)) (λ q g x e. nope e) (λ q g x e. nope e) (λ d g x e. nope e)

  pub is-some : (g : Goal Q) (x : Q × Goal Q) → as_some g ≡ some x → g ≡ Goal.some x.0 x.1
  is-some = goal-cases (Of as_some λ x. Goal.some x.0 x.1) (λ x e. nope e) (λ a x e. nope e) (λ g h x e. nope e) (λ g h x e. nope e) (λ q g x e. ap (λ (y : Q × Goal Q). Goal.some y.0 y.1) (some-injective (q, g) x e)) (λ q g x e. nope e) (λ d g x e. nope e)

  pub is_all : (g : Goal Q) (x : Q × Goal Q) → as_all g ≡ some x → g ≡ Goal.all x.0 x.1
  is_all = goal-cases (Of as_all λ x. Goal.all x.0 x.1) (λ x e. nope e) (λ a x e. nope e) (λ g h x e. nope e) (λ g h x e. nope e) (λ q g x e. nope e) (λ q g x e. ap (λ (y : Q × Goal Q). Goal.all y.0 y.1) (some-injective (q, g) x e)) (λ d g x e. nope e)

  pub is-imp : (g : Goal Q) (x : Clause Q × Goal Q) → as_imp g ≡ some x → g ≡ Goal.imp x.0 x.1
  is-imp = goal-cases (Of as_imp λ x. Goal.imp x.0 x.1) (λ x e. nope e) (λ a x e. nope e) (λ g h x e. nope e) (λ g h x e. nope e) (λ q g x e. nope e) (λ q g x e. nope e) (λ d g x e. ap (λ (y : Clause Q × Goal Q). Goal.imp y.0 y.1) (some-injective (d, g) x e))
