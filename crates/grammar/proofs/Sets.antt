-- Sets of tokens as lists: what the tests of membership, inclusion and disjointness say.
use mathlib.Core.Path.{◌≡◌, refl, sym, ◌∙◌, ap, subst}
use mathlib.Core.Bool.{Bool, true, false, ◌&&◌, ◌||◌, not, false≢true}
use mathlib.Core.Logic.{◌⊎◌, inl, inr, ⊎_elim}
use mathlib.Core.List.{List, [], ◌∷◌, ◌++◌}
use mathlib.Core.Option.{Option, none, some}
use native.Mathlib.Omega.{arith}
use lib.Dec.{eqb}
use borrow.Author.Tests.{eqb-true, eq-eqb, not-true}
use Rattle.basics.specs.Choice.{choose, both_true}
use Rattle.grammar.specs.Derives.{Has}
use Rattle.grammar.specs.Machine.{Grammar, key, has, within, apart}

pub either_true : (a b : Bool) → a || b ≡ true → (a ≡ true) ⊎ (b ≡ true)
either_true true b e = inl refl
either_true false b e = inr e

or_left : (a b : Bool) → a ≡ true → a || b ≡ true
or_left true b e = refl
or_left false b e = absurd (false≢true e)

or_right : (a b : Bool) → b ≡ true → a || b ≡ true
or_right true b e = refl
or_right false b e = e

-- where a test excludes a and a holds, the other does
pub not-or : (a b : Bool) → not a || b ≡ true → a ≡ true → b ≡ true
not-or true b e h = e
not-or false b e h = absurd (false≢true h)

pub not-and : (a b : Bool) → not (a && b) ≡ true → a ≡ true → b ≡ true → ⊥
not-and true true e h g = false≢true e
not-and true false e h g = false≢true g
not-and false b e h g = false≢true h

pub true-false : {b : Bool} → b ≡ true → b ≡ false → ⊥
true-false h g = false≢true (sym g ∙ h)

module _ {A : Type 0} where
  pub has_left : (xs ys : List A) (d : A) → Has xs d → Has (xs ++ ys) d
  has_left [] ys d h = absurd h
  has_left (x ∷ xs) ys d (inl e) = inl e
  has_left (x ∷ xs) ys d (inr h) = inr (has_left xs ys d h)

  pub has_right : (xs ys : List A) (d : A) → Has ys d → Has (xs ++ ys) d
  has_right [] ys d h = h
  has_right (x ∷ xs) ys d h = inr (has_right xs ys d h)

  pub has_chosen : (b : Bool) (xs : List A) (d : A) → b ≡ true → Has xs d → Has (choose b xs []) d
  has_chosen true xs d e h = h
  has_chosen false xs d e h = absurd (false≢true e)

module _ {T N : Type 0} (G : Grammar T N) (once : (a b : T) → G.code a ≡ G.code b → a ≡ b) where
  key-once : (x y : Option T) → key G x ≡ key G y → x ≡ y
  key-once none none e = refl
  key-once none (some b) e = absurd (omega (arith, e))
  key-once (some a) none e = absurd (omega (arith, e))
  key-once (some a) (some b) e = ap some (once a b (omega (arith, e)))

  pub has-true : (xs : List (Option T)) (d : Option T) → has G xs d ≡ true → Has xs d
  has-true [] d e = absurd (false≢true e)
  has-true (x ∷ xs) d e =
      ⊎_elim (λ h. inl (key-once x d (eqb-true (key G x) (key G d) h))) (λ h. inr (has-true xs d h))
      (either_true (eqb (key G x) (key G d)) (has G xs d) e)

  pub true-has : (xs : List (Option T)) (d : Option T) → Has xs d → has G xs d ≡ true
  true-has [] d h = absurd h
  true-has (x ∷ xs) d (inl e) = or_left _ _ (eq-eqb (key G x) (key G d) (ap (key G) e))
  true-has (x ∷ xs) d (inr h) = or_right (eqb (key G x) (key G d)) _ (true-has xs d h)

  pub within_has : (xs ys : List (Option T)) (d : Option T) → within G xs ys ≡ true → Has xs d → Has ys d
  within_has [] ys d e h = absurd h
  within_has (x ∷ xs) ys d e (inl q) = subst (Has ys) q (has-true ys x (both_true (has G ys x) _ e).0)
  within_has (x ∷ xs) ys d e (inr h) = within_has xs ys d (both_true (has G ys x) _ e).1 h

  pub apart-has : (xs ys : List (Option T)) (d : Option T) → apart G xs ys ≡ true → Has xs d → Has ys d → ⊥
  apart-has [] ys d e h g = h
  apart-has (x ∷ xs) ys d e (inl q) g =
      true-false (true-has ys x (subst (Has ys) (sym q) g)) (not-true (has G ys x) (both_true (not (has G ys x)) _ e).0)
  apart-has (x ∷ xs) ys d e (inr h) g = apart-has xs ys d (both_true (not (has G ys x)) _ e).1 h g
