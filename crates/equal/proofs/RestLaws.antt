-- How two rows of terms are compared, one by one, and two atoms: from what is seen of the first terms to the answer.
use Prim.Native.Nat.{ℕ, ◌+◌, ◌-◌, ◌≤◌, ◌<◌}
use mathlib.Core.Path.{◌≡◌, refl, sym, ◌∙◌, ap, ap₂, subst}
use mathlib.Core.Bool.{Bool, true, false, ◌&&◌, false≢true}
use mathlib.Core.List.{List}
use native.Mathlib.Omega.{arith}
use lib.Dec.{eqb}
use lib.ListN.{length, get_or, drop}
use borrow.Author.Tests.{eq-eqb, ne_eqb, eqb-true, eqb-false}
use Rattle.basics.specs.Choice.{both_true}
use Rattle.harrop.specs.Formula.{Name, Term, Terms, Atom}
use Rattle.harrop.specs.Bindings.{Bindings, replaced, replaceds, same_term, same_terms}
use Rattle.harrop.proofs.SameLaws.{equal-names-same}
use Rattle.packet.specs.Written.{term_sexp, term_sexps}
use Rattle.packet.specs.Barred.{term_ok, terms_ok}
use Rattle.std.specs.Prelude.{Option, Some, None}
use Rattle.sexp.specs.Sexp.{Sexp, str, spell, Stands, nestings}
use Rattle.sexp.specs.Past.{PastAt}
use Rattle.sexp.proofs.AnswerLaws.{past_next, past-nothing}
use Rattle.sexp.proofs.OntoLaws.{spell-some}
use Rattle.sexp.proofs.StandLaws.{stands-once, stands-inside, first-stands, others-stand, none-closes, no-closing}
use Rattle.room.specs.declared.Spot.{Spot}
use Rattle.equal.specs.declared.equal.Seen.{Seen}
use Rattle.equal.specs.declared.equal.Seen.TheVariants.{Parameter, Written}
use Rattle.equal.specs.declared.equal.Begun.{Begun}
use Rattle.equal.specs.declared.equal.Begun.TheVariants.{Same, Differ, Rest}
use Rattle.room.specs.Spot.{bindings_at, moved_to}
use Rattle.room.specs.Files.{Files, file_of}
use Rattle.room.specs.Table.{CandidatesIn}
use Rattle.equal.specs.Term.{AtomAt, TermAt, TermsAt, is_written, Sees, SeesAt, IsParameter, AfterAt, Begins, beginning, BeginsWritten, BeginsAt, SameTerms, SameRest, SameAtoms}
use Rattle.room.proofs.NestLaws.{term-nests, all-replaced-nest}
use Rattle.equal.proofs.TermLaws.{part-stands, all-further, atom-text, atom-rest, text-once, names-differ}

-- a test of equal numbers does not mind their order
same-either : (k m : ℕ) → eqb k m ≡ eqb m k
same-either k m = go (eqb k m) refl
  where
    go : (b : Bool) → eqb k m ≡ b → b ≡ eqb m k
    go true e = sym (eq-eqb m k (sym (eqb-true k m e)))
    go false e = sym (ne_eqb m k (λ z. eqb-false k m e (sym z)))

-- a written term against a parameter
parameter-right : (cs : List Term) (bs : Bindings) (k : ℕ) (t : Term) → is_written t ≡ true → same_term (replaced cs bs t) (Term.e k) ≡ same_term t (Term.e k)
parameter-right cs bs k (Term.v i) w = absurd (false≢true w)
parameter-right cs bs k (Term.f g ts) w = refl
parameter-right cs bs k (Term.e m) w = refl

parameter-left : (cs : List Term) (bs : Bindings) (k : ℕ) (t : Term) → is_written t ≡ true → same_term (Term.e k) (replaced cs bs t) ≡ same_term t (Term.e k)
parameter-left cs bs k (Term.v i) w = absurd (false≢true w)
parameter-left cs bs k (Term.f g ts) w = refl
parameter-left cs bs k (Term.e m) w = same-either k m

module _ (fs : Files) (room : List ℕ) where
  abbrev file : Spot → List ℕ
  file x = file_of fs x.source

  begins-told : (cs : List Term) (u w : Term) (b : Bool) → same_term u w ≡ b → Begins fs room cs u w (beginning b)
  begins-told cs u w true e = e
  begins-told cs u w false e = e

  begins-as : (cs : List Term) (u w : Term) (b : Bool) (r : Begun) → r ≡ beginning b → same_term u w ≡ b → Begins fs room cs u w r
  begins-as cs u w b r e h = subst (Begins fs room cs u w) (sym e) (begins-told cs u w b h)

  module _ (x y : Spot) {a b : Seen} (one : SeesAt fs room x a) (two : SeesAt fs room y b) where
    pub begin-parameters : (k m : ℕ) → a ≡ Parameter k → b ≡ Parameter m → (r : Begun) → r ≡ beginning (eqb k m) → BeginsAt fs room x y r
    begin-parameters k m p q r e cs t u C T U =
        let s = subst (Sees fs room cs (replaced cs (bindings_at room x) t)) p (one cs t C T) in
        let v = subst (Sees fs room cs (replaced cs (bindings_at room y) u)) q (two cs u C U) in
        begins-as cs (replaced cs (bindings_at room x) t) (replaced cs (bindings_at room y) u) (eqb k m) r e (ap₂ same_term s v)

    pub begin-left : (k : ℕ) (z : Spot) (i : Bool) → a ≡ Parameter k → b ≡ Written z → IsParameter fs z k i → (r : Begun) → r ≡ beginning i → BeginsAt fs room x y r
    begin-left k z i p q I r e cs t u C T U =
        let s = subst (Sees fs room cs (replaced cs (bindings_at room x) t)) p (one cs t C T) in
        let W = subst (Sees fs room cs (replaced cs (bindings_at room y) u)) q (two cs u C U) in
        begins-as cs (replaced cs (bindings_at room x) t) (replaced cs (bindings_at room y) u) i r e
        (ap₂ same_term s (sym W.means) ∙ parameter-left cs (bindings_at room z) k W.term W.plain ∙ sym (I W.term W.here W.plain))

    pub begin-right : (k : ℕ) (z : Spot) (i : Bool) → a ≡ Written z → b ≡ Parameter k → IsParameter fs z k i → (r : Begun) → r ≡ beginning i → BeginsAt fs room x y r
    begin-right k z i p q I r e cs t u C T U =
        let W = subst (Sees fs room cs (replaced cs (bindings_at room x) t)) p (one cs t C T) in
        let s = subst (Sees fs room cs (replaced cs (bindings_at room y) u)) q (two cs u C U) in
        begins-as cs (replaced cs (bindings_at room x) t) (replaced cs (bindings_at room y) u) i r e
        (ap₂ same_term (sym W.means) s ∙ parameter-right cs (bindings_at room z) k W.term W.plain ∙ sym (I W.term W.here W.plain))

    pub begin-written : (z z' : Spot) → a ≡ Written z → b ≡ Written z' → (r : Begun) → BeginsWritten fs z z' r → BeginsAt fs room x y r
    begin-written z z' p q r B cs t u C T U =
        B room cs (replaced cs (bindings_at room x) t) (replaced cs (bindings_at room y) u)
        (subst (Sees fs room cs (replaced cs (bindings_at room x) t)) p (one cs t C T))
        (subst (Sees fs room cs (replaced cs (bindings_at room y) u)) q (two cs u C U))

  -- two terms
  module _ (x y : Spot) (nest : ℕ) where
    pub same-never : nest ≡ 0 → SameTerms fs room x y nest false
    same-never e cs t u C T U n = absurd (omega (arith, term-nests (replaced cs (bindings_at room x) t)))

    pub same-yes : {b : Begun} → b ≡ Same → BeginsAt fs room x y b → SameTerms fs room x y nest true
    same-yes e B cs t u C T U n = sym (subst (Begins fs room cs (replaced cs (bindings_at room x) t) (replaced cs (bindings_at room y) u)) e (B cs t u C T U))

    pub same-no : {b : Begun} → b ≡ Differ → BeginsAt fs room x y b → SameTerms fs room x y nest false
    same-no e B cs t u C T U n = sym (subst (Begins fs room cs (replaced cs (bindings_at room x) t) (replaced cs (bindings_at room y) u)) e (B cs t u C T U))

    pub same-further : {b : Begun} {p q : Spot} (r : Bool) → b ≡ Rest p q → BeginsAt fs room x y b → (nest ≡ 0 → ⊥) → SameRest fs room p q (nest - 1) r → SameTerms fs room x y nest r
    same-further r e B h S cs t u C T U n =
        let R = subst (Begins fs room cs (replaced cs (bindings_at room x) t) (replaced cs (bindings_at room y) u)) e (B cs t u C T U) in
        S cs R.one R.two C R.here R.there (omega (arith, R.less)) ∙ sym R.decides

-- a row of terms: the first, and the others
module _ (fs : Files) (x : Spot) (t : Term) (ts : Terms) (T : TermsAt fs x (Terms.cons t ts)) where
  pub first-term : TermAt fs x t
  first-term = record {
    stands = first-stands T.stands;
    shallow = omega (arith, T.shallow);
    few = T.few;
    holds = T.holds;
    ok = (both_true (term_ok T.holds x.count t) (terms_ok T.holds x.count ts) T.ok).0;
  }

  pub other-terms : TermsAt fs (moved_to x (x.at + length (spell (term_sexp t)))) ts
  other-terms = record {
    stands = others-stand T.stands;
    shallow = omega (arith, T.shallow);
    few = T.few;
    holds = T.holds;
    ok = (both_true (term_ok T.holds x.count t) (terms_ok T.holds x.count ts) T.ok).1;
  }

-- what is left to compare of two rows, at the offsets p and q of their files
pub record Left (fs : Files) (room : List ℕ) (cs : List Term) (x y : Spot) (nest p q : ℕ) (ts us : Terms) : Type 0 where
  pub one : Terms
  pub two : Terms
  pub here : TermsAt fs (moved_to x p) one
  pub there : TermsAt fs (moved_to y q) two
  pub less : nestings (term_sexps (replaceds cs (bindings_at room x) one)) ≤ nest
  pub decides : same_terms (replaceds cs (bindings_at room x) ts) (replaceds cs (bindings_at room y) us) ≡ same_terms (replaceds cs (bindings_at room x) one) (replaceds cs (bindings_at room y) two)

abbrev pub LeftAt : Files → List ℕ → Spot → Spot → ℕ → ℕ → ℕ → Type 0
LeftAt fs room x y nest p q =
    (cs : List Term) (ts us : Terms) → CandidatesIn room fs.terms cs → TermsAt fs x ts → TermsAt fs y us
    → nestings (term_sexps (replaceds cs (bindings_at room x) ts)) ≤ nest → Left fs room cs x y nest p q ts us

module _ (fs : Files) (room : List ℕ) (x y : Spot) (nest : ℕ) where
  pub left-start : LeftAt fs room x y nest x.at y.at
  left-start cs ts us C T U n = record {
    one = ts;
    two = us;
    here = record { stands = T.stands; shallow = T.shallow; few = T.few; holds = T.holds; ok = T.ok };
    there = record { stands = U.stands; shallow = U.shallow; few = U.few; holds = U.holds; ok = U.ok };
    less = n;
    decides = refl;
  }

  module _ (p q : ℕ) (s t : List ℕ) (ex : s ≡ file_of fs x.source) (ey : t ≡ file_of fs y.source) (L : LeftAt fs room x y nest p q) where
    closes-x : {r : Bool} → r ≡ eqb (get_or s p 0) 41 → r ≡ true → get_or (file_of fs x.source) p 0 ≡ 41
    closes-x e h = ap (λ (l : List ℕ). get_or l p 0) (sym ex) ∙ eqb-true (get_or s p 0) 41 (sym e ∙ h)

    opens-x : {r : Bool} → r ≡ eqb (get_or s p 0) 41 → r ≡ false → get_or (file_of fs x.source) p 0 ≡ 41 → ⊥
    opens-x e h z = eqb-false (get_or s p 0) 41 (sym e ∙ h) (ap (λ (l : List ℕ). get_or l p 0) ex ∙ z)

    closes-y : {r : Bool} → r ≡ eqb (get_or t q 0) 41 → r ≡ true → get_or (file_of fs y.source) q 0 ≡ 41
    closes-y e h = ap (λ (l : List ℕ). get_or l q 0) (sym ey) ∙ eqb-true (get_or t q 0) 41 (sym e ∙ h)

    opens-y : {r : Bool} → r ≡ eqb (get_or t q 0) 41 → r ≡ false → get_or (file_of fs y.source) q 0 ≡ 41 → ⊥
    opens-y e h z = eqb-false (get_or t q 0) 41 (sym e ∙ h) (ap (λ (l : List ℕ). get_or l q 0) ey ∙ z)

    -- the first row is at its end: so must the second be
    pub left_end : {c d : Bool} → c ≡ eqb (get_or s p 0) 41 → c ≡ true → d ≡ eqb (get_or t q 0) 41 → SameRest fs room x y nest d
    left_end {c} {d} e h f cs ts us C T U n = let l = L cs ts us C T U n in go l.one l.two l.here l.there d refl ∙ sym l.decides
      where
        go : (one two : Terms) → TermsAt fs (moved_to x p) one → TermsAt fs (moved_to y q) two → (b : Bool) → d ≡ b
            → d ≡ same_terms (replaceds cs (bindings_at room x) one) (replaceds cs (bindings_at room y) two)
        go (Terms.cons u one) two X Y b g = absurd (no-closing (first-stands X.stands) (closes-x e h))
        go Terms.nil Terms.nil X Y true g = g
        go Terms.nil Terms.nil X Y false g = absurd (opens-y f g (none-closes Y.stands))
        go Terms.nil (Terms.cons w two) X Y true g = absurd (no-closing (first-stands Y.stands) (closes-y f g))
        go Terms.nil (Terms.cons w two) X Y false g = g

    -- the second is at its end, and the first is not
    pub left-short : {c d : Bool} → c ≡ eqb (get_or s p 0) 41 → c ≡ false → d ≡ eqb (get_or t q 0) 41 → d ≡ true → SameRest fs room x y nest false
    left-short {c} {d} e h f g cs ts us C T U n = let l = L cs ts us C T U n in go l.one l.two l.here l.there ∙ sym l.decides
      where
        go : (one two : Terms) → TermsAt fs (moved_to x p) one → TermsAt fs (moved_to y q) two
            → false ≡ same_terms (replaceds cs (bindings_at room x) one) (replaceds cs (bindings_at room y) two)
        go Terms.nil two X Y = absurd (opens-x e h (none-closes X.stands))
        go (Terms.cons u one) Terms.nil X Y = refl
        go (Terms.cons u one) (Terms.cons w two) X Y = absurd (no-closing (first-stands Y.stands) (closes-y f g))

    -- neither is: their first terms are compared
    pub record Firsts (cs : List Term) (ts us : Terms) : Type 0 where
      pub u : Term
      pub w : Term
      pub one : Terms
      pub two : Terms
      pub here : TermsAt fs (moved_to x p) (Terms.cons u one)
      pub there : TermsAt fs (moved_to y q) (Terms.cons w two)
      pub less : nestings (term_sexps (replaceds cs (bindings_at room x) (Terms.cons u one))) ≤ nest
      pub decides : same_terms (replaceds cs (bindings_at room x) ts) (replaceds cs (bindings_at room y) us) ≡ same_terms (replaceds cs (bindings_at room x) (Terms.cons u one)) (replaceds cs (bindings_at room y) (Terms.cons w two))

    firsts : {c d : Bool} → c ≡ eqb (get_or s p 0) 41 → c ≡ false → d ≡ eqb (get_or t q 0) 41 → d ≡ false → (cs : List Term) (ts us : Terms) → Left fs room cs x y nest p q ts us → Firsts cs ts us
    firsts {c} {d} e h f g cs ts us l = go l.one l.two l.here l.there l.less l.decides
      where
        go : (one two : Terms) → TermsAt fs (moved_to x p) one → TermsAt fs (moved_to y q) two → nestings (term_sexps (replaceds cs (bindings_at room x) one)) ≤ nest
            → same_terms (replaceds cs (bindings_at room x) ts) (replaceds cs (bindings_at room y) us) ≡ same_terms (replaceds cs (bindings_at room x) one) (replaceds cs (bindings_at room y) two) → Firsts cs ts us
        go Terms.nil two X Y n k = absurd (opens-x e h (none-closes X.stands))
        go (Terms.cons u one) Terms.nil X Y n k = absurd (opens-y f g (none-closes Y.stands))
        go (Terms.cons u one) (Terms.cons w two) X Y n k = record { u = u; w = w; one = one; two = two; here = X; there = Y; less = n; decides = k }

    module _ {c d : Bool} (e : c ≡ eqb (get_or s p 0) 41) (h : c ≡ false) (f : d ≡ eqb (get_or t q 0) 41) (g : d ≡ false) {r : Bool} (S : SameTerms fs room (moved_to x p) (moved_to y q) nest r) where
      first-same : (cs : List Term) (ts us : Terms) → CandidatesIn room fs.terms cs → (F : Firsts cs ts us) → r ≡ same_term (replaced cs (bindings_at room x) F.u) (replaced cs (bindings_at room y) F.w)
      first-same cs ts us C F =
          S cs F.u F.w C (first-term fs (moved_to x p) F.u F.one F.here) (first-term fs (moved_to y q) F.w F.two F.there) (omega (arith, F.less))

      pub left-differ : r ≡ false → SameRest fs room x y nest false
      left-differ z cs ts us C T U n =
          let F = firsts e h f g cs ts us (L cs ts us C T U n) in
          ap (λ (b : Bool). b && same_terms (replaceds cs (bindings_at room x) F.one) (replaceds cs (bindings_at room y) F.two)) (sym z ∙ first-same cs ts us C F)
          ∙ sym F.decides

      -- an expression stands at each, so both are gone past
      pub left-lost : {a : Option ℕ} → a ≡ None → PastAt s p 64 a → SameRest fs room x y nest false
      left-lost z a cs ts us C T U n =
          let F = firsts e h f g cs ts us (L cs ts us C T U n) in
          let X = first-term fs (moved_to x p) F.u F.one F.here in
          absurd (past-nothing z a (term_sexp F.u) (subst (λ (l : List ℕ). Stands l p (term_sexp F.u)) (sym ex) X.stands) X.shallow)

      pub left-lost-too : {a : Option ℕ} → a ≡ None → PastAt t q 64 a → SameRest fs room x y nest false
      left-lost-too z a cs ts us C T U n =
          let F = firsts e h f g cs ts us (L cs ts us C T U n) in
          let Y = first-term fs (moved_to y q) F.w F.two F.there in
          absurd (past-nothing z a (term_sexp F.w) (subst (λ (l : List ℕ). Stands l q (term_sexp F.w)) (sym ey) Y.stands) Y.shallow)

      pub left-next : r ≡ true → {a b : Option ℕ} {m n : ℕ} → a ≡ Some m → PastAt s p 64 a → b ≡ Some n → PastAt t q 64 b → LeftAt fs room x y nest m n
      left-next z {m = m} {n = k} i a j b cs ts us C T U n =
          let F = firsts e h f g cs ts us (L cs ts us C T U n) in
          let X = first-term fs (moved_to x p) F.u F.one F.here in
          let Y = first-term fs (moved_to y q) F.w F.two F.there in
          let E = past_next i a in
          let G = past_next j b in
          let mm = E.ends ∙ ap (λ (v : Sexp). p + length (spell v)) (stands-once E.stands (subst (λ (l : List ℕ). Stands l p (term_sexp F.u)) (sym ex) X.stands)) in
          let kk = G.ends ∙ ap (λ (v : Sexp). q + length (spell v)) (stands-once G.stands (subst (λ (l : List ℕ). Stands l q (term_sexp F.w)) (sym ey) Y.stands)) in
          record {
            one = F.one;
            two = F.two;
            here = subst (λ (v : ℕ). TermsAt fs (moved_to x v) F.one) (sym mm) (other-terms fs (moved_to x p) F.u F.one F.here);
            there = subst (λ (v : ℕ). TermsAt fs (moved_to y v) F.two) (sym kk) (other-terms fs (moved_to y q) F.w F.two F.there);
            less = omega (arith, F.less);
            decides = F.decides ∙ ap (λ (v : Bool). v && same_terms (replaceds cs (bindings_at room x) F.one) (replaceds cs (bindings_at room y) F.two)) (sym (first-same cs ts us C F) ∙ z);
          }

-- what two moved spots say
pub same-moved : (fs : Files) (room : List ℕ) (x y : Spot) (p q nest : ℕ) {a b : Spot} (r : Bool) → a ≡ moved_to x p → b ≡ moved_to y q → SameTerms fs room a b nest r
    → SameTerms fs room (moved_to x p) (moved_to y q) nest r
same-moved fs room x y p q nest {a} {b} r e f S =
    subst (λ (z : Spot). SameTerms fs room (moved_to x p) z nest r) f (subst (λ (z : Spot). SameTerms fs room z b nest r) e S)

-- going past an expression goes on, inside the file
pub past-on : (s : List ℕ) (p nest : ℕ) {m : ℕ} {a : Option ℕ} → a ≡ Some m → PastAt s p nest a → (p < m) × (m ≤ length s)
past-on s p nest z a =
    let E = past_next z a in
    let i = stands-inside E.stands in
    let some = spell-some E.expression in
    (omega (arith, E.ends), omega (arith, E.ends))

-- atoms: their names, then their terms
module _ (fs : Files) (room : List ℕ) (x y : Spot) where
  abbrev file_at : Spot → List ℕ
  file_at z = file_of fs z.source

  atom-terms : (z b : Spot) (n : Name) (ts : Terms) → AtomAt fs z (Atom.atom n ts) → b ≡ moved_to z (z.at + (7 + length (spell (str n)))) → TermsAt fs b ts
  atom-terms z b n ts X e =
      subst (λ (v : Spot). TermsAt fs v ts) (sym e) (record {
        stands = all-further z.at (7 + length (spell (str n))) (atom-rest n ts (part-stands X.stands));
        shallow = omega (arith, X.shallow);
        few = X.few;
        holds = false;
        ok = X.ok;
      })

  pub atoms-same : (o : Begun) → AfterAt (file_at x) (file_at y) x y 7 o → o ≡ Same → SameAtoms fs room x y true
  atoms-same o A e cs a b C X Y = absurd (subst (AfterAt (file_at x) (file_at y) x y 7) e A)

  pub atoms-differ : (o : Begun) → AfterAt (file_at x) (file_at y) x y 7 o → o ≡ Differ → SameAtoms fs room x y false
  atoms-differ o A e cs (Atom.atom n ts) (Atom.atom m us) C X Y =
      let B = subst (AfterAt (file_at x) (file_at y) x y 7) e A in
      let d : n ≡ m → ⊥ = λ z. B (record { octets = n; here = atom-text n ts (part-stands X.stands); there = subst (λ (l : List ℕ). Stands (drop y.at (file_at y)) 7 (str l)) (sym z) (atom-text m us (part-stands Y.stands)) }) in
      ap (λ (b : Bool). b && same_terms (replaceds cs (bindings_at room x) ts) (replaceds cs (bindings_at room y) us)) (sym (names-differ n m d))

  pub atoms-rest : (o : Begun) {p q : Spot} (r : Bool) → AfterAt (file_at x) (file_at y) x y 7 o → o ≡ Rest p q → SameRest fs room p q 128 r → SameAtoms fs room x y r
  atoms-rest o {p} {q} r A g S cs (Atom.atom n ts) (Atom.atom m us) C X Y =
      let B = subst (AfterAt (file_at x) (file_at y) x y 7) g A in
      let i = text-once B.here (atom-text n ts (part-stands X.stands)) in
      let j = text-once B.there (atom-text m us (part-stands Y.stands)) in
      let e : p ≡ moved_to x (x.at + (7 + length (spell (str n)))) = B.one ∙ ap (λ (l : List ℕ). moved_to x (x.at + (7 + length (spell (str l))))) i in
      let f : q ≡ moved_to y (y.at + (7 + length (spell (str m)))) = B.two ∙ ap (λ (l : List ℕ). moved_to y (y.at + (7 + length (spell (str l))))) j in
      let bx : bindings_at room p ≡ bindings_at room x = ap (bindings_at room) e in
      let cy : bindings_at room q ≡ bindings_at room y = ap (bindings_at room) f in
      let N = all-replaced-nest cs C.shallow (bindings_at room p) ts in
      S cs ts us C (atom-terms x p n ts X e) (atom-terms y q m us Y f) (omega (arith, X.shallow, N))
      ∙ ap₂ (λ (z w : Bindings). same_terms (replaceds cs z ts) (replaceds cs w us)) bx cy
      ∙ ap (λ (b : Bool). b && same_terms (replaceds cs (bindings_at room x) ts) (replaceds cs (bindings_at room y) us)) (sym (equal-names-same n m (sym i ∙ j)))
