-- Two names, terms or atoms are the same exactly if they are equal (the tests of Bindings).
use mathlib.Core.Path.{◌≡◌, refl, ap, ap₂, subst}
use mathlib.Core.Bool.{true, false, false≢true}
use mathlib.Core.List.{[], ◌∷◌}
use lib.Dec.{eqb}
use borrow.Author.Tests.{eqb-true, eq-eqb}
use Rattle.basics.specs.Choice.{both_true}
use Rattle.harrop.specs.Formula.{Name, Term, Terms, Atom}
use Rattle.harrop.specs.Bindings.{same_name, same_term, same_terms, same_atom}

pub same-names-equal : (g h : Name) → same_name g h ≡ true → g ≡ h
same-names-equal [] [] e = refl
same-names-equal [] (y ∷ ys) e = absurd (false≢true e)
same-names-equal (x ∷ xs) [] e = absurd (false≢true e)
same-names-equal (x ∷ xs) (y ∷ ys) e =
    let (s, t) = both_true (eqb x y) (same_name xs ys) e in
    ap₂ {C = Name} ◌∷◌ (eqb-true x y s) (same-names-equal xs ys t)

pub name-same : (g : Name) → same_name g g ≡ true
name-same [] = refl
name-same (x ∷ xs) = rw (eq-eqb x x refl) (name-same xs)

mutual
  pub same-terms-equal : (t u : Term) → same_term t u ≡ true → t ≡ u
  same-terms-equal (Term.v i) (Term.v j) e = ap Term.v (eqb-true i j e)
  same-terms-equal (Term.v i) (Term.f h us) e = absurd (false≢true e)
  same-terms-equal (Term.v i) (Term.e m) e = absurd (false≢true e)
  same-terms-equal (Term.f g ts) (Term.v j) e = absurd (false≢true e)
  same-terms-equal (Term.f g ts) (Term.f h us) e =
      let (s, t) = both_true (same_name g h) (same_terms ts us) e in
      ap₂ Term.f (same-names-equal g h s) (same-lists-equal ts us t)
  same-terms-equal (Term.f g ts) (Term.e m) e = absurd (false≢true e)
  same-terms-equal (Term.e k) (Term.v j) e = absurd (false≢true e)
  same-terms-equal (Term.e k) (Term.f h us) e = absurd (false≢true e)
  same-terms-equal (Term.e k) (Term.e m) e = ap Term.e (eqb-true k m e)

  pub same-lists-equal : (ts us : Terms) → same_terms ts us ≡ true → ts ≡ us
  same-lists-equal Terms.nil Terms.nil e = refl
  same-lists-equal Terms.nil (Terms.cons u us) e = absurd (false≢true e)
  same-lists-equal (Terms.cons t ts) Terms.nil e = absurd (false≢true e)
  same-lists-equal (Terms.cons t ts) (Terms.cons u us) e =
      let (s, r) = both_true (same_term t u) (same_terms ts us) e in
      ap₂ Terms.cons (same-terms-equal t u s) (same-lists-equal ts us r)

mutual
  pub term-same : (t : Term) → same_term t t ≡ true
  term-same (Term.v i) = eq-eqb i i refl
  term-same (Term.f g ts) = rw (name-same g) (list_same ts)
  term-same (Term.e k) = eq-eqb k k refl

  pub list_same : (ts : Terms) → same_terms ts ts ≡ true
  list_same Terms.nil = refl
  list_same (Terms.cons t ts) = rw (term-same t) (list_same ts)

pub same-atoms-equal : (a b : Atom) → same_atom a b ≡ true → a ≡ b
same-atoms-equal (Atom.atom g ts) (Atom.atom h us) e =
    let (s, t) = both_true (same_name g h) (same_terms ts us) e in
    ap₂ Atom.atom (same-names-equal g h s) (same-lists-equal ts us t)

pub atom-same : (a : Atom) → same_atom a a ≡ true
atom-same (Atom.atom g ts) = rw (name-same g) (list_same ts)

-- the other way
pub equal-names-same : (g h : Name) → g ≡ h → same_name g h ≡ true
equal-names-same g h e = subst (λ (x : Name). same_name g x ≡ true) e (name-same g)

pub equal-terms-same : (t u : Term) → t ≡ u → same_term t u ≡ true
equal-terms-same t u e = subst (λ (x : Term). same_term t x ≡ true) e (term-same t)

pub equal-lists-same : (ts us : Terms) → ts ≡ us → same_terms ts us ≡ true
equal-lists-same ts us e = subst (λ (x : Terms). same_terms ts x ≡ true) e (list_same ts)

pub equal-atoms-same : (a b : Atom) → a ≡ b → same_atom a b ≡ true
equal-atoms-same a b e = subst (λ (x : Atom). same_atom a x ≡ true) e (atom-same a)
