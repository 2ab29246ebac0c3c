-- How two terms are compared where they stand: their words, the names or numbers after them, and then the terms after those, one by one.
use Prim.Native.Nat.{ℕ, ◌+◌, ◌≤◌}
use mathlib.Core.Path.{◌≡◌, sym, ◌∙◌, ap, ap₂, subst}
use mathlib.Core.Bool.{Bool, true, false}
use mathlib.Core.List.{List}
use native.Mathlib.Omega.{arith}
use lib.ListN.{length, drop, length-drop}
use Rattle.basics.specs.Tells.{Tells, told-yes, told-no}
use Rattle.harrop.specs.Formula.{Term}
use Rattle.harrop.specs.Bindings.{Bindings, replaced, replaceds, same_term, same_terms}
use Rattle.harrop.proofs.SameLaws.{equal-terms-same}
use Rattle.packet.specs.Written.{term_sexp, term_sexps}
use Rattle.packet.specs.Read.{term_of}
use Rattle.packet.proofs.ReadLaws.{term-read}
use Rattle.std.specs.Prelude.{Option, Some, None}
use Rattle.sexp.specs.Sexp.{Sexp, str, spell, Stands, nesting, nestings}
use Rattle.sexp.specs.Past.{PastAt}
use Rattle.sexp.specs.WordsAt.{Shared}
use Rattle.sexp.proofs.AnswerLaws.{past_next, past-nothing}
use Rattle.sexp.proofs.OntoLaws.{spell-some}
use Rattle.sexp.proofs.StandLaws.{stands-once, stands-inside}
use Rattle.room.specs.declared.Spot.{Spot}
use Rattle.equal.specs.declared.equal.Begun.{Begun}
use Rattle.equal.specs.declared.equal.Begun.TheVariants.{Same, Differ, Rest}
use Rattle.room.specs.Spot.{bindings_at, moved_to}
use Rattle.room.specs.Files.{Files, file_of}
use Rattle.equal.specs.Term.{TermAt, TermsAt, WrittenAt, AfterAt, Begins, BeginsWritten}
use Rattle.equal.proofs.TermLaws.{part-stands, all-further, term_word, term_text, term_rest, term-word, term-text, term-rest, text-once, written_same, words-differ, texts-differ, rest-less, rest-shallow, rest_ok}

-- a term is known from how it is written
written_once : (t u : Term) → term_sexp t ≡ term_sexp u → t ≡ u
written_once t u e = sym (term-read t) ∙ ap term_of e ∙ term-read u

module _ (fs : Files) where
  abbrev file : Spot → List ℕ
  file x = file_of fs x.source

  -- just after a string that two parts share, or that they share none
  module _ (x y : Spot) {s t : List ℕ} (from : ℕ) (p : s ≡ drop x.at (file x)) (q : t ≡ drop y.at (file y)) where
    shared-there : Shared s from t from → Shared (drop x.at (file x)) from (drop y.at (file y)) from
    shared-there h = record { octets = h.octets; here = subst (λ (l : List ℕ). Stands l from (str h.octets)) p h.here; there = subst (λ (l : List ℕ). Stands l from (str h.octets)) q h.there }

    shared-here : Shared (drop x.at (file x)) from (drop y.at (file y)) from → Shared s from t from
    shared-here h = record { octets = h.octets; here = subst (λ (l : List ℕ). Stands l from (str h.octets)) (sym p) h.here; there = subst (λ (l : List ℕ). Stands l from (str h.octets)) (sym q) h.there }

    pub after_none : {r : Bool} → Tells r (Shared s from t from) → r ≡ false → AfterAt (file x) (file y) x y from Differ
    after_none h e z = told-no e h (shared-here z)

    pub after-lost : {r : Bool} {n : Option ℕ} → Tells r (Shared s from t from) → r ≡ true → n ≡ None → PastAt s from 0 n → AfterAt (file x) (file y) x y from Differ
    after-lost h e z a = let w = told-yes e h in absurd (past-nothing z a (str w.octets) w.here (omega arith))

    past-text : {r : Bool} {n : ℕ} {a : Option ℕ} → (h : Tells r (Shared s from t from)) (e : r ≡ true) → a ≡ Some n → PastAt s from 0 a → n ≡ from + length (spell (str (told-yes e h).octets))
    past-text h e z a =
        let w = told-yes e h in
        let E = past_next z a in
        E.ends ∙ ap (λ (d : Sexp). from + length (spell d)) (stands-once E.stands w.here)

    pub after-inside : {r : Bool} {n : ℕ} {a : Option ℕ} → Tells r (Shared s from t from) → r ≡ true → a ≡ Some n → PastAt s from 0 a → (x.at + n ≤ length (file x)) × (y.at + n ≤ length (file y))
    after-inside {n = n} h e z a =
        let w = told-yes e h in
        let k = past-text h e z a in
        let i = stands-inside w.here in
        let j = stands-inside w.there in
        let l = ap length p ∙ length-drop x.at (file x) in
        let m = ap length q ∙ length-drop y.at (file y) in
        let some = spell-some (str w.octets) in
        (omega arith, omega arith)

    pub after-some : {r : Bool} {n : ℕ} {a : Option ℕ} {b c : Spot} → Tells r (Shared s from t from) → r ≡ true → a ≡ Some n → PastAt s from 0 a → b ≡ moved_to x (x.at + n) → c ≡ moved_to y (y.at + n)
        → AfterAt (file x) (file y) x y from (Rest b c)
    after-some {n = n} h e z a u v =
        let w = told-yes e h in
        let k = past-text h e z a in
        let W = shared-there w in
        record {
          octets = w.octets;
          here = subst (λ (l : List ℕ). Stands l from (str w.octets)) p w.here;
          there = subst (λ (l : List ℕ). Stands l from (str w.octets)) q w.there;
          one = u ∙ ap (λ (m : ℕ). moved_to x (x.at + m)) k;
          two = v ∙ ap (λ (m : ℕ). moved_to y (y.at + m)) k;
        }

  -- what stands in the part of a spot
  in-part : {x : Spot} {t : Term} → TermAt fs x t → Stands (drop x.at (file x)) 0 (term_sexp t)
  in-part T = part-stands T.stands

  -- the terms after the name or number of a term
  terms-after : (x a : Spot) (t : Term) → TermAt fs x t → a ≡ moved_to x (x.at + (4 + length (spell (str (term_text t))))) → TermsAt fs a (term_rest t)
  terms-after x a t T e =
      subst (λ (y : Spot). TermsAt fs y (term_rest t)) (sym e) (record {
        stands = all-further x.at (4 + length (spell (str (term_text t)))) (term-rest t (in-part T));
        shallow = omega (arith, rest-shallow t, T.shallow);
        few = T.few;
        holds = T.holds;
        ok = rest_ok T.holds x.count t T.ok;
      })

  -- two written terms at the same spot are the same
  pub heads-once : (x y : Spot) → x ≡ y → BeginsWritten fs x y Same
  heads-once x y e room cs u w U W =
      let t = U.term in
      let v = W.term in
      let q : TermAt fs x v = subst (λ (z : Spot). TermAt fs z v) (sym e) W.here in
      let same = written_once t v (stands-once U.here.stands q.stands) in
      equal-terms-same u w
      (sym U.means
      ∙ ap (replaced cs (bindings_at room x)) same
      ∙ ap (λ (z : Spot). replaced cs (bindings_at room z) v) e
      ∙ W.means)

  module _ (x y : Spot) (room : List ℕ) (cs : List Term) (u w : Term) (U : WrittenAt fs room cs x u) (W : WrittenAt fs room cs y w) where
    -- their words differ
    heads-words : (term_word U.term ≡ term_word W.term → ⊥) → same_term u w ≡ false
    heads-words n =
        sym (ap₂ same_term U.means W.means)
        ∙ words-differ cs (bindings_at room x) (bindings_at room y) U.term W.term U.plain W.plain n

    heads-texts : (term_text U.term ≡ term_text W.term → ⊥) → same_term u w ≡ false
    heads-texts n =
        sym (ap₂ same_term U.means W.means)
        ∙ texts-differ cs (bindings_at room x) (bindings_at room y) U.term W.term U.plain W.plain n

    -- their words are the same: what stands after them decides
    heads-after : term_word U.term ≡ term_word W.term → (r : Begun) → AfterAt (file x) (file y) x y 4 r → Begins fs room cs u w r
    heads-after e Same a = absurd a
    heads-after e Differ a =
        heads-texts λ d. a (record {
          octets = term_text U.term;
          here = term-text U.term (in-part U.here);
          there = subst (λ (l : List ℕ). Stands (drop y.at (file y)) 4 (str l)) (sym d) (term-text W.term (in-part W.here));
        })
    heads-after e (Rest b c) a =
        let t = U.term in
        let v = W.term in
        let p = text-once a.here (term-text t (in-part U.here)) in
        let q = text-once a.there (term-text v (in-part W.here)) in
        let o : b ≡ moved_to x (x.at + (4 + length (spell (str (term_text t))))) = a.one ∙ ap (λ (l : List ℕ). moved_to x (x.at + (4 + length (spell (str l))))) p in
        let o' : c ≡ moved_to y (y.at + (4 + length (spell (str (term_text v))))) = a.two ∙ ap (λ (l : List ℕ). moved_to y (y.at + (4 + length (spell (str l))))) q in
        let bx : bindings_at room b ≡ bindings_at room x = ap (bindings_at room) o in
        let cy : bindings_at room c ≡ bindings_at room y = ap (bindings_at room) o' in
        record {
          one = term_rest t;
          two = term_rest v;
          here = terms-after x b t U.here o;
          there = terms-after y c v W.here o';
          less = subst (λ (z : Bindings). nestings (term_sexps (replaceds cs z (term_rest t))) + 1 ≤ nesting (term_sexp u)) (sym bx)
              (subst (λ (z : Term). nestings (term_sexps (replaceds cs (bindings_at room x) (term_rest t))) + 1 ≤ nesting (term_sexp z)) U.means (rest-less cs (bindings_at room x) (bindings_at room y) t U.plain));
          decides = sym (ap₂ same_term U.means W.means)
              ∙ written_same cs (bindings_at room x) (bindings_at room y) t v U.plain W.plain e (sym p ∙ q)
              ∙ ap₂ (λ (z z' : Bindings). same_terms (replaceds cs z (term_rest t)) (replaceds cs z' (term_rest v))) (sym bx) (sym cy);
        }

  module _ (x y : Spot) {s t : List ℕ} {r : Bool} (p : s ≡ drop x.at (file x)) (q : t ≡ drop y.at (file y)) (h : Tells r (Shared s 1 t 1)) where
    pub heads-differ : r ≡ false → BeginsWritten fs x y Differ
    heads-differ e room cs u w U W =
        heads-words x y room cs u w U W λ d. told-no e h (record {
          octets = term_word U.term;
          here = subst (λ (l : List ℕ). Stands l 1 (str (term_word U.term))) (sym p) (term-word U.term (in-part U.here));
          there = subst (λ (l : List ℕ). Stands l 1 (str (term_word U.term))) (sym q)
              (subst (λ (l : List ℕ). Stands (drop y.at (file y)) 1 (str l)) (sym d) (term-word W.term (in-part W.here)));
        })

    pub heads-rest : r ≡ true → (b : Begun) → AfterAt (file x) (file y) x y 4 b → BeginsWritten fs x y b
    heads-rest e b a room cs u w U W =
        let z = told-yes e h in
        let one = text-once z.here (subst (λ (l : List ℕ). Stands l 1 (str (term_word U.term))) (sym p) (term-word U.term (in-part U.here))) in
        let two = text-once z.there (subst (λ (l : List ℕ). Stands l 1 (str (term_word W.term))) (sym q) (term-word W.term (in-part W.here))) in
        heads-after x y room cs u w U W (sym one ∙ two) b a
