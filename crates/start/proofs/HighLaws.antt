-- The highest parameter of a candidate, read where the candidate stands: by how it begins, and term by term.
use Prim.Native.Nat.{ℕ, ◌+◌, ◌-◌, ◌≤◌, ◌<◌, max}
use mathlib.Core.Path.{◌≡◌, refl, sym, ◌∙◌, ap, subst}
use mathlib.Core.Bool.{Bool, true, false, cond, ◌&&◌}
use mathlib.Core.List.{List}
use native.Mathlib.Omega.{arith}
use lib.Dec.{eqb, leb}
use lib.ListN.{length, get_or, drop, length-drop}
use borrow.Author.Tests.{ltb-true, leb-true, eqb-true, eqb-false}
use Rattle.basics.specs.Choice.{both_true}
use Rattle.basics.specs.Tells.{Tells, told-yes, told-no}
use Rattle.basics.specs.Text.{octets}
use Rattle.harrop.specs.Formula.{Term, Terms}
use Rattle.harrop.specs.Bindings.{highest, highests}
use Rattle.packet.specs.Written.{term_sexp, term_sexps}
use Rattle.packet.specs.Barred.{Holds, term_ok, terms_ok, parameter_ok}
use Rattle.std.proofs.Common.{Ordering, Less, Equal, Greater, nat_cmp}
use Rattle.std.specs.Ordering.{MatchOrdering, is_lt, ord_max}
use Rattle.std.proofs.lemmas.Cmp.{ranked}
use Rattle.std.specs.Prelude.{Option, Some, None, unwrap_or}
use Rattle.sexp.specs.Sexp.{Sexp, str, spell, Stands, StandsAll, nesting, nestings}
use Rattle.sexp.specs.Past.{Ends, PastAt}
use Rattle.sexp.specs.WordsAt.{NumberAt}
use Rattle.sexp.proofs.AnswerLaws.{past_next, past-nothing}
use Rattle.sexp.proofs.StandLaws.{stands-once, first-stands, others-stand, none-closes, no-closing}
use Rattle.start.specs.declared.table.Head.{Head}
use Rattle.start.specs.declared.table.Head.TheVariants as head
use Rattle.room.specs.Layout.{levels}
use Rattle.room.specs.Table.{HighestAt, HighestsAt}
use Rattle.start.specs.Head.{NumberAfter, TermsOf, Heads, HeadAt}
use Rattle.room.proofs.NestLaws.{term-nests}
use Rattle.equal.proofs.TermLaws.{part-stands, all-further, term_text, term-word, term-text, term-rest, text-once}
use Rattle.equal.proofs.SeeLaws.{number_read, unread, no-f-e, parameter-small}
use Rattle.equal.proofs.RestLaws.{past-on}

-- the number after a word
pub number-some : {s : List ℕ} {v : Option ℕ} {k : ℕ} → v ≡ Some k → NumberAt s 4 v → NumberAfter s k
number-some {v = v} e a i h l = let q = number_read i v h l a in cc

pub number-none : {s : List ℕ} {v : Option ℕ} → v ≡ None → NumberAt s 4 v → NumberAfter s 0
number-none {v = v} e a i h l = absurd (unread (number_read i v h l a) e)

pub number-told : {s : List ℕ} (v : Option ℕ) → NumberAt s 4 v → NumberAfter s (unwrap_or v 0)
number-told (Some k) a = number-some refl a
number-told None a = number-none refl a

-- the larger of two numbers
pub larger : (a b : ℕ) → ord_max nat_cmp a b ≡ max a b
larger a b = go (nat_cmp b a) (ranked b a (nat_cmp b a) refl)
  where
    go : (o : Ordering) → MatchOrdering o (b < a) (b ≡ a) (a < b) → cond (is_lt o) a b ≡ max a b
    go Less h = omega arith
    go Equal h = omega arith
    go Greater h = omega arith

-- how a candidate begins
module _ (s : List ℕ) (at : ℕ) {t : List ℕ} (p : t ≡ drop at s) where
  here : (u : Term) → Stands s at (term_sexp u) → Stands t 0 (term_sexp u)
  here u h = subst (λ (l : List ℕ). Stands l 0 (term_sexp u)) (sym p) (part-stands h)

  pub begins-parameter : (k : ℕ) {r : Bool} → Tells r (Stands t 1 (str (octets "e"))) → r ≡ true → NumberAfter t k → HeadAt s at (head.Parameter k)
  begins-parameter k h e n u g o = go u (here u g) o
    where
      go : (u : Term) → Stands t 0 (term_sexp u) → term_ok true 0 u ≡ true → k ≡ highest u
      go (Term.v i) g o = let z = ltb-true i 0 o in absurd (omega arith)
      go (Term.f m ts) g o = absurd (no-f-e (text-once (term-word (Term.f m ts) g) (told-yes e h)))
      go (Term.e m) g o = n m (term-text (Term.e m) g) (parameter-small true m o)

  pub begins-lost : {r : Bool} {a : Option ℕ} → Tells r (Stands t 1 (str (octets "e"))) → r ≡ false → a ≡ None → PastAt t 4 0 a → HeadAt s at (head.Parameter 0)
  begins-lost h e z a u g o = go u (here u g) o
    where
      go : (u : Term) → Stands t 0 (term_sexp u) → term_ok true 0 u ≡ true → 0 ≡ highest u
      go (Term.v i) g o = let z = ltb-true i 0 o in absurd (omega arith)
      go (Term.f m ts) g o = absurd (past-nothing z a (str m) (term-text (Term.f m ts) g) (omega arith))
      go (Term.e m) g o = absurd (told-no e h (term-word (Term.e m) g))

  pub begins-terms : {r : Bool} {a : Option ℕ} {n : ℕ} → Tells r (Stands t 1 (str (octets "e"))) → r ≡ false → a ≡ Some n → PastAt t 4 0 a → HeadAt s at (head.Terms (at + n))
  begins-terms {n = n} h e z a u g o = go u (here u g) o
    where
      go : (u : Term) → Stands t 0 (term_sexp u) → term_ok true 0 u ≡ true → TermsOf s (at + n) u
      go (Term.v i) g o = let z = ltb-true i 0 o in absurd (omega arith)
      go (Term.f m ts) g o =
          let E = past_next z a in
          let q = E.ends ∙ ap (λ (x : Sexp). 4 + length (spell x)) (stands-once E.stands (term-text (Term.f m ts) g)) in
          record {
            ts = ts;
            stands = all-further at n (subst (λ (l : List ℕ). StandsAll l n (term_sexps ts)) p (subst (λ (i : ℕ). StandsAll t i (term_sexps ts)) (sym q) (term-rest (Term.f m ts) g)));
            ok = o;
            less = omega arith;
            high = refl;
          }
      go (Term.e m) g o = absurd (told-no e h (term-word (Term.e m) g))

  pub begins-inside : {a : Option ℕ} {n : ℕ} → a ≡ Some n → PastAt t 4 0 a → at + n ≤ length s
  begins-inside z a = let h = past-on t 4 0 z a in let l = ap length p ∙ length-drop at s in omega (arith, h)

-- the highest parameter of a term
module _ (s : List ℕ) (at nest : ℕ) where
  pub high-never : nest ≡ 0 → HighestAt s at nest 0
  high-never e t h o l n = absurd (omega (arith, term-nests t))

  pub high-parameter : {b : Head} {k : ℕ} → b ≡ head.Parameter k → HeadAt s at b → HighestAt s at nest k
  high-parameter e H t h o l n = subst (Heads s t) e (H t h o)

  pub high-terms : {b : Head} {p : ℕ} (r : ℕ) → b ≡ head.Terms p → HeadAt s at b → (nest ≡ 0 → ⊥) → HighestsAt s p (nest - 1) r → HighestAt s at nest r
  high-terms r e H z R t h o l n =
      let T = subst (Heads s t) e (H t h o) in
      R T.ts T.stands T.ok (omega (arith, T.less)) (omega (arith, T.less)) ∙ sym T.high

-- terms still to come, and the highest parameter so far
pub record HighRest (s : List ℕ) (nest p m : ℕ) (ts : Terms) : Type 0 where
  pub rest : Terms
  pub stands : StandsAll s p (term_sexps rest)
  pub ok : terms_ok true 0 rest ≡ true
  pub shallow : nestings (term_sexps rest) ≤ levels
  pub less : nestings (term_sexps rest) ≤ nest
  pub high : highests ts ≡ max m (highests rest)

abbrev pub HighLeft : List ℕ → ℕ → ℕ → ℕ → ℕ → Type 0
HighLeft s at nest p m =
    (ts : Terms) → StandsAll s at (term_sexps ts) → terms_ok true 0 ts ≡ true → nestings (term_sexps ts) ≤ levels → nestings (term_sexps ts) ≤ nest → HighRest s nest p m ts

module _ (s : List ℕ) (at nest : ℕ) where
  pub high-start : HighLeft s at nest at 0
  high-start ts h o l n = record { rest = ts; stands = h; ok = o; shallow = l; less = n; high = omega arith }

  module _ (p m : ℕ) (L : HighLeft s at nest p m) {c : Bool} (e : c ≡ eqb (get_or s p 0) 41) where
    pub high_end : c ≡ true → HighestsAt s at nest m
    high_end t ts h o l n = let R = L ts h o l n in go R.rest R.stands R.high
      where
        go : (us : Terms) → StandsAll s p (term_sexps us) → highests ts ≡ max m (highests us) → m ≡ highests ts
        go Terms.nil h k = omega arith
        go (Terms.cons u us) h k = absurd (no-closing (first-stands h) (eqb-true (get_or s p 0) 41 (sym e ∙ t)))

    module _ (t : c ≡ false) {q : ℕ} (H : HighestAt s p nest q) where
      pub record First (ts : Terms) : Type 0 where
        pub one : Term
        pub others : Terms
        pub here : Stands s p (term_sexp one)
        pub there : StandsAll s (p + length (spell (term_sexp one))) (term_sexps others)
        pub ok : terms_ok true 0 others ≡ true
        pub shallow : nestings (term_sexps others) ≤ levels
        pub less : nestings (term_sexps others) ≤ nest
        pub deep : nesting (term_sexp one) ≤ levels
        pub high : highests ts ≡ max (max m q) (highests others)

      firsts : (ts : Terms) → HighRest s nest p m ts → First ts
      firsts ts R = go R.rest R.stands R.ok R.shallow R.less R.high
        where
          go : (us : Terms) → StandsAll s p (term_sexps us) → terms_ok true 0 us ≡ true → nestings (term_sexps us) ≤ levels → nestings (term_sexps us) ≤ nest → highests ts ≡ max m (highests us) → First ts
          go Terms.nil h o l n k = absurd (eqb-false (get_or s p 0) 41 (sym e ∙ t) (none-closes h))
          go (Terms.cons u us) h o l n k =
              let (a, b) = both_true (term_ok true 0 u) (terms_ok true 0 us) o in
              let z = H u (first-stands h) a (omega arith) (omega arith) in
              record { one = u; others = us; here = first-stands h; there = others-stand h; ok = b; shallow = omega arith; less = omega arith; deep = omega arith; high = omega arith }

      pub high-lost : {a : Option ℕ} → a ≡ None → PastAt s p 64 a → HighestsAt s at nest 0
      high-lost z a ts h o l n = let F = firsts ts (L ts h o l n) in absurd (past-nothing z a (term_sexp F.one) F.here F.deep)

      pub high-next : {a : Option ℕ} {i : ℕ} (m' : ℕ) → m' ≡ max m q → a ≡ Some i → PastAt s p 64 a → HighLeft s at nest i m'
      high-next {i = i} m' y z a ts h o l n =
          let F = firsts ts (L ts h o l n) in
          let E = past_next z a in
          let k = E.ends ∙ ap (λ (x : Sexp). p + length (spell x)) (stands-once E.stands F.here) in
          record { rest = F.others; stands = subst (λ (j : ℕ). StandsAll s j (term_sexps F.others)) (sym k) F.there; ok = F.ok; shallow = F.shallow; less = F.less; high = omega (arith, F.high) }

-- the highest parameter of a candidate is at most 64
mutual
  pub highest-small : (t : Term) → term_ok true 0 t ≡ true → highest t ≤ 64
  highest-small (Term.v i) o = omega arith
  highest-small (Term.f g ts) o = highests-small ts o
  highest-small (Term.e k) o =
      let (a, b) = both_true (true && leb 1 k) (leb k 64) o in
      leb-true k 64 b

  highests-small : (ts : Terms) → terms_ok true 0 ts ≡ true → highests ts ≤ 64
  highests-small Terms.nil o = omega arith
  highests-small (Terms.cons t ts) o =
      let (a, b) = both_true (term_ok true 0 t) (terms_ok true 0 ts) o in
      omega (arith, highest-small t a, highests-small ts b)
