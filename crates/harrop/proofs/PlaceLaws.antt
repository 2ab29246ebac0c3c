-- The tests of Place are the families of Proves: which candidates may be used, and what a path reaches.
use Prim.Native.Nat.{ℕ, ◌<◌}
use mathlib.Core.Path.{◌≡◌, refl, sym, ◌∙◌, subst}
use mathlib.Core.Bool.{Bool, true, false, ◌&&◌, false≢true}
use mathlib.Core.List.{List, [], ◌∷◌}
use mathlib.Core.Option.{Option, none, some, some-injective}
use lib.Dec.{leb}
use lib.ListN.{length, get_elem?}
use borrow.Author.Tests.{leb-true, le-leb}
use Rattle.basics.specs.Choice.{nope, both_true, provided-some}
use Rattle.harrop.specs.declared.Binding.TheVariants.{Candidate}
use Rattle.harrop.specs.Formula.{Term, Clause, Step}
use Rattle.harrop.specs.Bindings.{Bindings, highest}
use Rattle.harrop.specs.Place.{Candidates, AtHand, Hand, End, allowed, follow}
use Rattle.harrop.specs.Proves.{May, Reaches, at-atom, at-imp, by_number, by-l, by-r}
use Rattle.harrop.proofs.ListLaws.{member_below}

module _ {Q : Type 0} (cs : Candidates Q) where
  -- allowed says true exactly of the candidates that may be used
  pub allowed-may : (o : List Q) (q : Q) (i : ℕ) → allowed cs o q i ≡ true → May cs o q i
  allowed-may o q i e = go (get_elem? cs.terms i) refl e
    where
      go : (x : Option Term) → get_elem? cs.terms i ≡ x → elim x as (λ y. Bool) [ none ↦ false | some t ↦ leb (highest t) (length o) && cs.suits o q t ] ≡ true → May cs o q i
      go none d e = absurd (false≢true e)
      go (some t) d e =
          let (h, s) = both_true (leb (highest t) (length o)) (cs.suits o q t) e in
          record { term = t; is_listed = d; is_open = leb-true (highest t) (length o) h; does_suit = s }

  pub may-allowed : (o : List Q) (q : Q) (i : ℕ) → May cs o q i → allowed cs o q i ≡ true
  may-allowed o q i m = rw (m.is_listed, allowed) (rw (le-leb (highest m.term) (length o) m.is_open) m.does_suit)

  -- a candidate that may be used is below the number of candidates
  pub may-below : (o : List Q) (q : Q) (i : ℕ) → May cs o q i → i < length cs.terms
  may-below o q i m = member_below cs.terms i m.term m.is_listed

  -- follow ends exactly where the path reaches
  pub follow-reaches : (o : List Q) (d : Clause Q) (bs : Bindings) (path : List Step) (x : End Q) → follow cs o d bs path ≡ some x → Reaches cs o d bs path x
  follow-reaches o (Clause.atom_d a) bs [] x e = subst (λ (y : End Q). Reaches cs o (Clause.atom_d a) bs [] y) (some-injective (End.at_atom a bs) x e) at-atom
  follow-reaches o (Clause.atom_d a) bs (s ∷ path) x e = nope e
  follow-reaches o (Clause.imp_d g a) bs [] x e = subst (λ (y : End Q). Reaches cs o (Clause.imp_d g a) bs [] y) (some-injective (End.at_imp g a bs) x e) at-imp
  follow-reaches o (Clause.imp_d g a) bs (s ∷ path) x e = nope e
  follow-reaches o (Clause.all_d q d) bs [] x e = nope e
  follow-reaches o (Clause.all_d q d) bs (Step.l ∷ path) x e = nope e
  follow-reaches o (Clause.all_d q d) bs (Step.r ∷ path) x e = nope e
  follow-reaches o (Clause.all_d q d) bs (Step.n i ∷ path) x e =
      let (m, r) = provided-some (allowed cs o q i) (follow cs o d (Candidate i ∷ bs) path) x e in
      by_number (allowed-may o q i m) (follow-reaches o d (Candidate i ∷ bs) path x r)
  follow-reaches o (Clause.and_d c d) bs [] x e = nope e
  follow-reaches o (Clause.and_d c d) bs (Step.l ∷ path) x e = by-l (follow-reaches o c bs path x e)
  follow-reaches o (Clause.and_d c d) bs (Step.r ∷ path) x e = by-r (follow-reaches o d bs path x e)
  follow-reaches o (Clause.and_d c d) bs (Step.n i ∷ path) x e = nope e

  pub reaches-follow : (o : List Q) (d : Clause Q) (bs : Bindings) (path : List Step) (x : End Q) → Reaches cs o d bs path x → follow cs o d bs path ≡ some x
  reaches-follow o d bs path x at-atom = refl
  reaches-follow o d bs path x at-imp = refl
  reaches-follow o d bs path x (by_number {q = q} {i = i} m t) = rw (may-allowed o q i m) (reaches-follow o _ _ _ x t)
  reaches-follow o d bs path x (by-l t) = reaches-follow o _ _ _ x t
  reaches-follow o d bs path x (by-r t) = reaches-follow o _ _ _ x t

  -- a path reaches one end only
  pub reaches-one : {o : List Q} {d : Clause Q} {bs : Bindings} {path : List Step} {x y : End Q} → Reaches cs o d bs path x → Reaches cs o d bs path y → x ≡ y
  reaches-one {o} {d} {bs} {path} {x} {y} t u = some-injective x y (sym (reaches-follow o d bs path x t) ∙ reaches-follow o d bs path y u)

  -- so do two paths into the same clause at hand
  pub same_end : {o : List Q} (c : Hand Q) (k : ℕ) {path : List Step} {d d₁ : AtHand Q} {x y : End Q} → get_elem? c k ≡ some d → Reaches cs o d.clause d.bindings path x → get_elem? c k ≡ some d₁ → Reaches cs o d₁.clause d₁.bindings path y → x ≡ y
  same_end {o} c k {path} {d} {d₁} {x} {y} e r f t = reaches-one r (subst (λ (z : AtHand Q). Reaches cs o z.clause z.bindings path y) (some-injective d₁ d (sym f ∙ e)) t)
