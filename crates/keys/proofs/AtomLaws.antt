-- The numbers of atoms and of their predicates, made where an atom stands: from the number of its name, argument by argument.
use Prim.Native.Nat.{ℕ, ◌+◌, ◌*◌, ◌%◌, ◌≤◌}
use mathlib.Core.Path.{◌≡◌, refl, sym, ◌∙◌, ap, subst}
use mathlib.Core.Bool.{Bool, true, false}
use mathlib.Core.List.{List}
use native.Mathlib.Omega.{arith}
use lib.Dec.{eqb}
use lib.ListN.{get_or, drop}
use borrow.Author.Tests.{eqb-true, eqb-false}
use Rattle.harrop.specs.Formula.{Name, Term, Terms, Atom}
use Rattle.harrop.specs.Bindings.{replaceds}
use Rattle.packet.specs.Written.{term_sexp, term_sexps, atom_sexp}
use Rattle.std.specs.Prelude.{Option, Some, None}
use Rattle.sexp.specs.Sexp.{str, Stands, StandsAll, nesting, nestings}
use Rattle.sexp.specs.Past.{PastAt}
use Rattle.sexp.proofs.AnswerLaws.{past_next, past-nothing}
use Rattle.sexp.proofs.FoundLaws.{ends-here, ends-others}
use Rattle.sexp.proofs.StandLaws.{first-stands, none-closes, no-closing}
use Rattle.room.specs.Layout.{levels}
use Rattle.room.specs.Spot.{bindings_at}
use Rattle.room.specs.Files.{Files, file_of}
use Rattle.room.specs.declared.Spot.{Spot}
use Rattle.equal.proofs.TermLaws.{part-stands, atom-text, atom-rest}
use Rattle.keys.specs.Key.{mix, text_key, terms_key, arguments_key}
use Rattle.keys.specs.Walk.{TextAt, TermAtKey, TermsAtKey, RowAt, PredicateAt, AtomAtKey}
use Rattle.keys.specs.Keys.{TermKeyAt, AtomKeyAt, PredicateKeyAt}
use Rattle.keys.proofs.KeyLaws.{text-small, terms-small, arguments-small}
use Rattle.keys.proofs.WalkLaws.{keyed-at}

-- terms still to come, and the number so far
pub record RowRest (s : List ℕ) (p k whole : ℕ) : Type 0 where
  pub rest : Terms
  pub stands : StandsAll s p (term_sexps rest)
  pub shallow : nestings (term_sexps rest) ≤ levels
  pub same : whole ≡ arguments_key k rest

abbrev pub RowLeft : List ℕ → ℕ → ℕ → ℕ → ℕ → Type 0
RowLeft s at h p k = (ts : Terms) → StandsAll s at (term_sexps ts) → nestings (term_sexps ts) ≤ levels → RowRest s p k (arguments_key h ts)

record RowNext (s : List ℕ) (p k whole : ℕ) : Type 0 where
  first : Term
  others : Terms
  stands : StandsAll s p (term_sexps (Terms.cons first others))
  deep : nesting (term_sexp first) ≤ levels
  shallow : nestings (term_sexps others) ≤ levels
  same : whole ≡ arguments_key k others

module _ (s : List ℕ) (at h : ℕ) where
  pub row-start : RowLeft s at h at h
  row-start ts g l = record { rest = ts; stands = g; shallow = l; same = refl }

  module _ (p k : ℕ) (L : RowLeft s at h p k) {c : Bool} (e : c ≡ eqb (get_or s p 0) 41) where
    pub row-end : c ≡ true → RowAt s at h k
    row-end t ts g l = let R = L ts g l in go R.rest R.stands R.same
      where
        go : (us : Terms) → StandsAll s p (term_sexps us) → arguments_key h ts ≡ arguments_key k us → k ≡ arguments_key h ts
        go Terms.nil g z = sym z
        go (Terms.cons u us) g z = absurd (no-closing (first-stands g) (eqb-true (get_or s p 0) 41 (sym e ∙ t)))

    module _ (t : c ≡ false) where
      next : {whole : ℕ} → RowRest s p k whole → RowNext s p (mix k 1) whole
      next {whole} R = go R.rest R.stands R.shallow R.same
        where
          go : (us : Terms) → StandsAll s p (term_sexps us) → nestings (term_sexps us) ≤ levels → whole ≡ arguments_key k us → RowNext s p (mix k 1) whole
          go Terms.nil g l z = absurd (eqb-false (get_or s p 0) 41 (sym e ∙ t) (none-closes g))
          go (Terms.cons u us) g l z = record { first = u; others = us; stands = g; deep = omega (arith, l); shallow = omega (arith, l); same = z }

      pub row-lost : {a : Option ℕ} → a ≡ None → PastAt s p 64 a → RowAt s at h 0
      row-lost z a ts g l =
          let N = next (L ts g l) in
          absurd (past-nothing z a (term_sexp N.first) (first-stands N.stands) N.deep)

      pub row_next : {a : Option ℕ} {i : ℕ} (m : ℕ) → m ≡ mix k 1 → a ≡ Some i → PastAt s p 64 a → RowLeft s at h i m
      row_next m y z a ts g l =
          let N = next (L ts g l) in
          record {
            rest = N.others;
            stands = ends-others N.stands (past_next z a);
            shallow = N.shallow;
            same = N.same ∙ ap (λ (j : ℕ). arguments_key j N.others) (sym y);
          }

-- an atom that a part of a file starts with: its name is gone past
pub predicate-lost : (t : List ℕ) (r : ℕ) {a : Option ℕ} → a ≡ None → PastAt t 7 0 a → PredicateAt t r
predicate-lost t r z a (Atom.atom m ts) g l = absurd (past-nothing z a (str m) (atom-text m ts g) (omega arith))

pub atom-lost : (t room : List ℕ) (x : Spot) (r : ℕ) {a : Option ℕ} → a ≡ None → PastAt t 7 0 a → AtomAtKey t room x r
atom-lost t room x r z a cs (Atom.atom m ts) K g l o = absurd (past-nothing z a (str m) (atom-text m ts g) (omega arith))

-- and its arguments are what follows
pub arguments-stand : (t : List ℕ) (m : Name) (ts : Terms) {a : Option ℕ} {n : ℕ} → a ≡ Some n → PastAt t 7 0 a → Stands t 0 (atom_sexp (Atom.atom m ts)) → StandsAll t n (term_sexps ts)
arguments-stand t m ts z a g =
    subst (λ (i : ℕ). StandsAll t i (term_sexps ts)) (sym (ends-here (atom-text m ts g) (past_next z a))) (atom-rest m ts g)

pub predicate-made : (t : List ℕ) {a : Option ℕ} {n h k : ℕ} (r : ℕ) → a ≡ Some n → PastAt t 7 0 a → TextAt t 7 h → RowAt t n h k → r ≡ k % 1073741824 * 2 + 2 → PredicateAt t r
predicate-made t {k = k} r z a T R e (Atom.atom m ts) g l =
    let y : k ≡ arguments_key (text_key m) ts = R ts (arguments-stand t m ts z a g) (omega (arith, l)) ∙ ap (λ (j : ℕ). arguments_key j ts) (T m (atom-text m ts g)) in
    omega (arith, e, y, arguments-small (text_key m) ts (text-small m))

pub atom-made : (t room : List ℕ) (x : Spot) {a : Option ℕ} {n h k : ℕ} (r : ℕ) → a ≡ Some n → PastAt t 7 0 a → TextAt t 7 h → TermsAtKey t n room x h 64 k → r ≡ k % 1073741824 * 2 + 1 → AtomAtKey t room x r
atom-made t room x {k = k} r z a T R e cs (Atom.atom m ts) K g l o =
    let us = replaceds cs (bindings_at room x) ts in
    let y : k ≡ terms_key (text_key m) us = R cs false ts K (arguments-stand t m ts z a g) o (omega (arith, l)) (omega (arith, l)) ∙ ap (λ (j : ℕ). terms_key j us) (T m (atom-text m ts g)) in
    omega (arith, e, y, terms-small (text_key m) us (text-small m))

-- at a spot
module _ (f : Files) (x : Spot) where
  abbrev file : List ℕ
  file = file_of f x.source

  pub term-there : (room : List ℕ) {s : List ℕ} (r : ℕ) → s ≡ drop 0 file → TermAtKey s x.at room x 64 r → TermKeyAt f room x r
  term-there room r e H cs t C K T =
      H cs T.holds t (keyed-at room f.terms cs x C K T.few) (subst (λ (l : List ℕ). Stands l x.at (term_sexp t)) (sym e) T.stands) T.ok T.shallow T.shallow

  pub predicate-there : {t : List ℕ} (r : ℕ) → t ≡ drop x.at file → PredicateAt t r → PredicateKeyAt f x r
  predicate-there r e H a X = H a (subst (λ (l : List ℕ). Stands l 0 (atom_sexp a)) (sym e) (part-stands X.stands)) X.shallow

  pub atom-there : (room : List ℕ) {t : List ℕ} (r : ℕ) → t ≡ drop x.at file → AtomAtKey t room x r → AtomKeyAt f room x r
  atom-there room r e H cs a C K X =
      H cs a (keyed-at room f.terms cs x C K X.few) (subst (λ (l : List ℕ). Stands l 0 (atom_sexp a)) (sym e) (part-stands X.stands)) X.shallow X.ok
