-- What is believed of the numbers of atoms and rules: the same atoms have the same number, and so have the same predicates; so the number of a head that may become an atom is the atom's or its predicate's. And no number is too large for a word.
use Prim.Native.Nat.{ℕ, ◌+◌, ◌*◌, ◌<◌}
use mathlib.Core.Path.{◌≡◌, refl, sym, ◌∙◌, ap, ap₂}
use mathlib.Core.Bool.{Bool, true, false, ◌&&◌, ◌||◌, false≢true}
use mathlib.Core.List.{List, [], ◌∷◌}
use mathlib.Core.Logic.{◌⊎◌, inl, inr}
use native.Mathlib.Omega.{arith}
use lib.Dec.{eqb}
use borrow.Author.Tests.{eqb-true}
use Rattle.basics.specs.Choice.{choose, both_true}
use Rattle.harrop.specs.Formula.{Name, Term, Terms, Atom, Clause}
use Rattle.harrop.specs.Bindings.{Bindings, replaced, replaceds, replaced_atom, same_name, same_atom}
use Rattle.harrop.specs.Place.{Plain}
use Rattle.harrop.proofs.SameLaws.{same-names-equal, same-atoms-equal}
use Rattle.packet.specs.Barred.{Holds, term_ok, terms_ok}
use Rattle.heads.specs.Predicate.{arguments, same_predicate}
use Rattle.mentions.specs.Mentions.{mentions_term, mentions_terms, mentions_atom}
use Rattle.keys.specs.Key.{mix, more, text_from, text_key, term_key, terms_key, atom_key, arguments_key, predicate_key, head_key, clause_key}

-- how large a number is
pub mix-small : (h x : ℕ) → mix h x < 1073741824
unfolding mix
mix-small h x = omega arith

more-small : (h c : ℕ) → more h c < 1073741824
unfolding more
more-small h c = omega arith

from-small : (h : ℕ) (w : List ℕ) → h < 1073741824 → text_from h w < 1073741824
unfolding text_from
from-small h [] l = l
from-small h (c ∷ cs) l = from-small (more h c) cs (more-small h c)

pub text-small : (n : Name) → text_key n < 1073741824
text-small n = from-small 1 n (omega arith)

pub terms-small : (h : ℕ) (ts : Terms) → h < 1073741824 → terms_key h ts < 1073741824
terms-small h Terms.nil l = l
terms-small h (Terms.cons t ts) l = terms-small (mix h (term_key t)) ts (mix-small h (term_key t))

pub term-small : (t : Term) → term_key t < 1073741824
term-small (Term.v i) = mix-small 3 i
term-small (Term.f g ts) = terms-small (text_key g) ts (text-small g)
term-small (Term.e k) = mix-small 5 k

pub arguments-small : (h : ℕ) (ts : Terms) → h < 1073741824 → arguments_key h ts < 1073741824
arguments-small h Terms.nil l = l
arguments-small h (Terms.cons t ts) l = arguments-small (mix h 1) ts (mix-small h 1)

pub atom-small : (a : Atom) → atom_key a < 4294967296
atom-small (Atom.atom n ts) = omega (arith, terms-small (text_key n) ts (text-small n))

pub predicate-small : (a : Atom) → predicate_key a < 4294967296
predicate-small (Atom.atom n ts) = omega (arith, arguments-small (text_key n) ts (text-small n))

pub head_small : (b : Atom) → head_key b < 4294967296
head_small b = go (mentions_atom (λ _. true) b)
  where
    go : (t : Bool) → choose t (predicate_key b) (atom_key b) < 4294967296
    go true = predicate-small b
    go false = atom-small b

pub clause-small : (d : Clause Plain) → clause_key d < 4294967296
clause-small (Clause.atom_d b) = head_small b
clause-small (Clause.imp_d g b) = head_small b
clause-small (Clause.all_d q d) = clause-small d
clause-small (Clause.and_d c d) = omega arith

-- no head has number 0, which is that of a clause with an `and`
pub head-some : (b : Atom) → 0 < head_key b
head-some b = go b (mentions_atom (λ _. true) b)
  where
    go : (b : Atom) (t : Bool) → 0 < choose t (predicate_key b) (atom_key b)
    go (Atom.atom n ts) true = omega arith
    go (Atom.atom n ts) false = omega arith

-- the same atoms, the same number
pub same-atom-key : (a b : Atom) → same_atom a b ≡ true → atom_key a ≡ atom_key b
same-atom-key a b e = ap atom_key (same-atoms-equal a b e)

-- as many arguments, the same number
as_many : (h : ℕ) (ts us : Terms) → arguments ts ≡ arguments us → arguments_key h ts ≡ arguments_key h us
as_many h Terms.nil Terms.nil e = refl
as_many h Terms.nil (Terms.cons u us) e = absurd (omega arith)
as_many h (Terms.cons t ts) Terms.nil e = absurd (omega arith)
as_many h (Terms.cons t ts) (Terms.cons u us) e = as_many (mix h 1) ts us (omega arith)

pub same-predicate-key : (a b : Atom) → same_predicate a b ≡ true → predicate_key a ≡ predicate_key b
unfolding same_predicate
same-predicate-key (Atom.atom n ts) (Atom.atom m us) e =
    let (s, t) = both_true (same_name n m) (eqb (arguments ts) (arguments us)) e in
    ap (λ (k : ℕ). k * 2 + 2) (as_many (text_key n) ts us (eqb-true (arguments ts) (arguments us) t) ∙ ap (λ (w : Name). arguments_key (text_key w) us) (same-names-equal n m s))

-- whatever the variables are replaced by, the predicate stays
module _ (us : List Term) (bs : Bindings) where
  row_stays : (h : ℕ) (ts : Terms) → arguments_key h (replaceds us bs ts) ≡ arguments_key h ts
  row_stays h Terms.nil = refl
  row_stays h (Terms.cons t ts) = row_stays (mix h 1) ts

  pub replaced-predicate-key : (a : Atom) → predicate_key (replaced_atom us bs a) ≡ predicate_key a
  replaced-predicate-key (Atom.atom n ts) = ap (λ (k : ℕ). k * 2 + 2) (row_stays (text_key n) ts)

-- what mentions no variable
pub neither : (a b : Bool) → a || b ≡ false → (a ≡ false) × (b ≡ false)
neither true b e = absurd (false≢true (sym e))
neither false b e = (refl, e)

module _ (us : List Term) (bs : Bindings) where
  mutual
    term-stays : (t : Term) → mentions_term (λ _. true) t ≡ false → replaced us bs t ≡ t
    term-stays (Term.v i) e = absurd (false≢true (sym e))
    term-stays (Term.f g ts) e = ap (Term.f g) (terms-stay ts e)
    term-stays (Term.e k) e = refl

    terms-stay : (ts : Terms) → mentions_terms (λ _. true) ts ≡ false → replaceds us bs ts ≡ ts
    terms-stay Terms.nil e = refl
    terms-stay (Terms.cons t ts) e =
        let (a, b) = neither (mentions_term (λ _. true) t) (mentions_terms (λ _. true) ts) e in
        ap₂ Terms.cons (term-stays t a) (terms-stay ts b)

  pub atom-stays : (a : Atom) → mentions_atom (λ _. true) a ≡ false → replaced_atom us bs a ≡ a
  atom-stays (Atom.atom n ts) e = ap (Atom.atom n) (terms-stay ts e)

mutual
  term-closed : (holds : Holds) (n : ℕ) (t : Term) → mentions_term (λ _. true) t ≡ false → term_ok holds n t ≡ true → term_ok holds 0 t ≡ true
  term-closed holds n (Term.v i) e o = absurd (false≢true (sym e))
  term-closed holds n (Term.f g ts) e o = terms-closed holds n ts e o
  term-closed holds n (Term.e k) e o = o

  pub terms-closed : (holds : Holds) (n : ℕ) (ts : Terms) → mentions_terms (λ _. true) ts ≡ false → terms_ok holds n ts ≡ true → terms_ok holds 0 ts ≡ true
  terms-closed holds n Terms.nil e o = refl
  terms-closed holds n (Terms.cons t ts) e o =
      let (a, b) = neither (mentions_term (λ _. true) t) (mentions_terms (λ _. true) ts) e in
      let (p, q) = both_true (term_ok holds n t) (terms_ok holds n ts) o in
      ap₂ ◌&&◌ (term-closed holds n t a p) (terms-closed holds n ts b q)

-- a head that becomes an atom has the atom's number or its predicate's, whatever its variables are replaced by
pub head-fits : (us : List Term) (ds : Bindings) (b a : Atom) → same_atom (replaced_atom us ds b) a ≡ true → (head_key b ≡ predicate_key a) ⊎ (head_key b ≡ atom_key a)
head-fits us ds b a h = go (mentions_atom (λ _. true) b) refl
  where
    same : replaced_atom us ds b ≡ a
    same = same-atoms-equal (replaced_atom us ds b) a h

    go : (t : Bool) → mentions_atom (λ _. true) b ≡ t → (choose t (predicate_key b) (atom_key b) ≡ predicate_key a) ⊎ (choose t (predicate_key b) (atom_key b) ≡ atom_key a)
    go true e = inl (sym (replaced-predicate-key us ds b) ∙ ap predicate_key same)
    go false e = inr (ap atom_key (sym (atom-stays us ds b e) ∙ same))
