-- When no head of a clause becomes an atom (document 02, Three): none has its predicate; the one head has another predicate by its number; or the one head has no variables and is another atom.
use Prim.Native.Nat.{ℕ, suc, ◌%◌}
use native.Mathlib.Omega.{arith}
use mathlib.Core.Path.{◌≡◌, refl, sym, ◌∙◌, ap, ap₂, subst}
use mathlib.Core.Bool.{Bool, true, false, ◌&&◌, false≢true}
use mathlib.Core.List.{List, ◌∷◌}
use mathlib.Core.Option.{some, some-injective}
use lib.Dec.{eqb}
use borrow.Author.Tests.{eq-eqb}
use Rattle.basics.specs.Choice.{choose, nope, both_true}
use Rattle.harrop.specs.Formula.{Term, Terms, Atom, Clause}
use Rattle.harrop.specs.Bindings.{Bindings, replaceds, replaced_atom, same_name, same_atom}
use Rattle.harrop.specs.Place.{Plain}
use Rattle.harrop.proofs.SameLaws.{name-same, same-atoms-equal, equal-atoms-same}
use Rattle.packet.specs.Barred.{goal_ok, atom_ok, clause_ok}
use Rattle.heads.specs.Predicate.{arguments, same_predicate, has_head}
use Rattle.mentions.specs.Mentions.{mentions_atom}
use Rattle.keys.specs.Key.{atom_key, predicate_key, head_key, clause_key}
use Rattle.keys.proofs.KeyLaws.{neither, replaced-predicate-key, atom-stays, terms-closed}
use Rattle.narrow.specs.Heads.{head_of}
use Rattle.narrow.specs.Narrow.{NoHead}

-- atoms that are never equal are not the same
pub never-same : (a b : Atom) → (a ≡ b → ⊥) → same_atom a b ≡ false
never-same a b h = go (same_atom a b) refl
  where
    go : (t : Bool) → same_atom a b ≡ t → t ≡ false
    go true e = absurd (h (same-atoms-equal a b e))
    go false e = refl

pub not_equal : (a b : Atom) → same_atom a b ≡ false → a ≡ b → ⊥
not_equal a b e h = false≢true (sym e ∙ equal-atoms-same a b h)

-- replacing variables leaves the predicate
replaced-many : (us : List Term) (bs : Bindings) (ts : Terms) → arguments (replaceds us bs ts) ≡ arguments ts
replaced-many us bs Terms.nil = refl
replaced-many us bs (Terms.cons t ts) = ap suc (replaced-many us bs ts)

replaced-predicate : (us : List Term) (bs es : Bindings) (b a : Atom) → same_predicate (replaced_atom us bs b) (replaced_atom us es a) ≡ same_predicate b a
unfolding same_predicate
replaced-predicate us bs es (Atom.atom n ts) (Atom.atom m ws) = ap₂ (λ (i j : ℕ). same_name n m && eqb i j) (replaced-many us bs ts) (replaced-many us es ws)

own-predicate : (a : Atom) → same_predicate a a ≡ true
unfolding same_predicate
own-predicate (Atom.atom n ts) = ap₂ ◌&&◌ (name-same n) (eq-eqb (arguments ts) (arguments ts) refl)

module _ (us : List Term) (es : Bindings) (a : Atom) where
  -- so a head with another predicate is never the atom
  other-predicate : (b : Atom) → same_predicate b a ≡ false → (bs : Bindings) → same_atom (replaced_atom us bs b) (replaced_atom us es a) ≡ false
  other-predicate b e bs = never-same (replaced_atom us bs b) (replaced_atom us es a) λ h.
      false≢true (sym e ∙ sym (replaced-predicate us bs es b a) ∙ ap (λ (c : Atom). same_predicate c (replaced_atom us es a)) h ∙ own-predicate (replaced_atom us es a))

  pub headless : (d : Clause Plain) → has_head d a ≡ false → (bs : Bindings) → NoHead us bs d (replaced_atom us es a)
  unfolding has_head
  headless (Clause.atom_d b) e bs = other-predicate b e bs
  headless (Clause.imp_d g b) e bs = other-predicate b e bs
  headless (Clause.all_d q d) e bs = λ x. headless d e (x ∷ bs)
  headless (Clause.and_d c d) e bs = let (p, q) = neither (has_head c a) (has_head d a) e in (headless c p bs, headless d q bs)

-- a clause with one head
pub one-head : (us : List Term) (A b : Atom) → ((bs : Bindings) → same_atom (replaced_atom us bs b) A ≡ false) → (d : Clause Plain) → head_of d ≡ some b → (bs : Bindings) → NoHead us bs d A
one-head us A b h (Clause.atom_d c) e bs = subst (λ (z : Atom). same_atom (replaced_atom us bs z) A ≡ false) (sym (some-injective c b e)) (h bs)
one-head us A b h (Clause.imp_d g c) e bs = subst (λ (z : Atom). same_atom (replaced_atom us bs z) A ≡ false) (sym (some-injective c b e)) (h bs)
one-head us A b h (Clause.all_d q d) e bs = λ x. one-head us A b h d e (x ∷ bs)
one-head us A b h (Clause.and_d c d) e bs = nope e

-- by the number of its predicate
pub other-number : (us : List Term) (es bs : Bindings) (b a : Atom) → (predicate_key b ≡ predicate_key a → ⊥) → same_atom (replaced_atom us bs b) (replaced_atom us es a) ≡ false
other-number us es bs b a n = never-same (replaced_atom us bs b) (replaced_atom us es a) λ h.
    n (sym (replaced-predicate-key us bs b) ∙ ap predicate_key h ∙ replaced-predicate-key us es a)

-- what a clause's number says of its one head: an odd one is that of a head without variables
head-number : (d : Clause Plain) (b : Atom) → head_of d ≡ some b → clause_key d ≡ head_key b
head-number (Clause.atom_d c) b e = ap head_key (some-injective c b e)
head-number (Clause.imp_d g c) b e = ap head_key (some-injective c b e)
head-number (Clause.all_d q d) b e = head-number d b e
head-number (Clause.and_d c d) b e = nope e

even-predicate : (b : Atom) → predicate_key b % 2 ≡ 0
even-predicate (Atom.atom n ts) = omega arith

pub no-variables : (d : Clause Plain) (b : Atom) → head_of d ≡ some b → (clause_key d % 2 ≡ 0 → ⊥) → mentions_atom (λ _. true) b ≡ false
no-variables d b e o = go (mentions_atom (λ _. true) b) refl
  where
    go : (t : Bool) → mentions_atom (λ _. true) b ≡ t → t ≡ false
    go true z =
        absurd
        (o
        (ap (λ (k : ℕ). k % 2) (head-number d b e ∙ ap (λ (t : Bool). choose t (predicate_key b) (atom_key b)) z) ∙ even-predicate b))
    go false z = refl

-- so it needs no quantifier around, and is the same whatever variables are replaced by
closed-head : (b : Atom) (n : ℕ) → mentions_atom (λ _. true) b ≡ false → atom_ok n b ≡ true → atom_ok 0 b ≡ true
closed-head (Atom.atom p ts) n e o = terms-closed false n ts e o

pub head_ok : (b : Atom) → mentions_atom (λ _. true) b ≡ false → (d : Clause Plain) (n : ℕ) → head_of d ≡ some b → clause_ok n d ≡ true → atom_ok 0 b ≡ true
head_ok b m (Clause.atom_d c) n e o = closed-head b n m (subst (λ (z : Atom). atom_ok n z ≡ true) (some-injective c b e) o)
head_ok b m (Clause.imp_d g c) n e o = closed-head b n m (subst (λ (z : Atom). atom_ok n z ≡ true) (some-injective c b e) (both_true (goal_ok n g) (atom_ok n c) o).1)
head_ok b m (Clause.all_d q d) n e o = head_ok b m d (suc n) e o
head_ok b m (Clause.and_d c d) n e o = nope e

pub one-fact : (us : List Term) (A b : Atom) (ds : Bindings) → mentions_atom (λ _. true) b ≡ false → same_atom (replaced_atom us ds b) A ≡ false → (bs : Bindings) → same_atom (replaced_atom us bs b) A ≡ false
one-fact us A b ds m h bs = ap (λ (z : Atom). same_atom z A) (atom-stays us bs b m ∙ sym (atom-stays us ds b m)) ∙ h
