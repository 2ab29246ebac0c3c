-- The numbers of names, variables, parameters and terms, made byte by byte where they stand: the steps of each walk.
use Prim.Native.Nat.{ℕ, ◌+◌, ◌-◌, ◌≤◌, ◌<◌}
use mathlib.Core.Path.{◌≡◌, refl, sym, ◌∙◌, ap, subst}
use mathlib.Core.Bool.{Bool, true, false}
use mathlib.Core.List.{List, [], ◌∷◌}
use mathlib.Core.Option.{none, some}
use native.Mathlib.Omega.{arith}
use lib.Dec.{eqb, ltb}
use lib.ListN.{length, get_or, take, drop, get_elem?, drop_of_length-le}
use borrow.Author.Tests.{ltb-true, ltb-false, lt-ltb, le-ltb, eqb-true, eqb-false}
use Rattle.basics.specs.Choice.{both_true}
use Rattle.basics.specs.Tells.{Tells, told-yes, told-no}
use Rattle.basics.specs.Text.{octets}
use Rattle.harrop.specs.declared.Binding.{Binding}
use Rattle.harrop.specs.declared.Binding.TheVariants.{Candidate, Parameter}
use Rattle.harrop.specs.Formula.{Name, Term, Terms}
use Rattle.harrop.specs.Bindings.{meant, replaced, replaceds, nothing}
use Rattle.harrop.proofs.ListLaws.{below-member, beyond-none}
use Rattle.packet.specs.Written.{term_sexp, term_sexps}
use Rattle.packet.specs.Barred.{term_ok, terms_ok}
use Rattle.std.specs.List.{fold}
use Rattle.std.specs.Prelude.{Option, Some, None}
use Rattle.sexp.specs.Sexp.{str, Stands, StandsAll, nesting, nestings}
use Rattle.sexp.specs.Past.{PastAt}
use Rattle.sexp.specs.Strings.{Plain}
use Rattle.sexp.specs.WordsAt.{NumberAt}
use Rattle.sexp.proofs.AnswerLaws.{past_next, past-nothing}
use Rattle.sexp.proofs.FoundLaws.{found_plain, ends-here, ends-others}
use Rattle.sexp.proofs.NumberLaws.{drop_here}
use Rattle.sexp.proofs.StandLaws.{first-stands, none-closes, no-closing}
use Rattle.room.specs.Layout.{levels, candidates_word}
use Rattle.room.specs.Frame.{held, bound_to}
use Rattle.room.specs.Spot.{bindings_at, nowhere}
use Rattle.room.specs.Table.{CandidatesIn}
use Rattle.room.specs.declared.Spot.{Spot}
use Rattle.room.proofs.FrameLaws.{bound-means}
use Rattle.start.proofs.HighLaws.{number-some}
use Rattle.room.proofs.NestLaws.{term-nests}
use Rattle.equal.proofs.SeeLaws.{number_read, unread, no-f-e, parameter-small}
use Rattle.equal.proofs.TermLaws.{part-stands, term-word, term-text, term-rest, text-once}
use Rattle.keys.specs.declared.term.Begun.{Begun}
use Rattle.keys.specs.declared.term.Begun.TheVariants.{Key, Terms as Rest}
use Rattle.keys.specs.Key.{mix, more, text_from, text_key, term_key, terms_key}
use Rattle.keys.specs.Walk.{TextAt, kept_word, candidate_key, binding_key, Keyed, VariableAt, ParameterAt, RestOf, Begins, BeginsAt, TermAtKey, TermsAtKey}
use Rattle.keys.specs.Keys.{CandidateKeys}

-- the octets of a name, one by one
pub text-folds : (h : ℕ) (w : Name) → fold more h w ≡ text_from h w
unfolding text_from
text-folds h [] = refl
text-folds h (c ∷ cs) = text-folds (more h c) cs

-- the name at an offset
pub text-told : (s : List ℕ) (at b n : ℕ) {r : ℕ} → Plain s at b n → r ≡ text_key (take (b + n - b) (drop b s)) → TextAt s at r
text-told s at b n p e w h =
    e
    ∙ ap (λ (k : ℕ). text_key (take k (drop b s))) {x = b + n - b} {y = n} (omega arith)
    ∙ ap text_key (sym (found_plain h p).1)

-- the number after a word of one letter
pub variable-lost : (t room : List ℕ) (x : Spot) (r : ℕ) {v : Option ℕ} → v ≡ None → NumberAt t 4 v → VariableAt t room x r
variable-lost t room x r {v} e a i h l = absurd (unread (number_read i v h l a) e)

pub parameter-lost : (t : List ℕ) (r : ℕ) {v : Option ℕ} → v ≡ None → NumberAt t 4 v → ParameterAt t r
parameter-lost t r {v} e a i h l = absurd (unread (number_read i v h l a) e)

pub variable-told : (t room : List ℕ) (x : Spot) {v : Option ℕ} {k r : ℕ} {b : Binding} → v ≡ Some k → NumberAt t 4 v → b ≡ bound_to (bindings_at room x) k → r ≡ binding_key room b → VariableAt t room x r
variable-told t room x e a f g i h l =
    g ∙ ap (binding_key room) f ∙ ap (λ (j : ℕ). binding_key room (bound_to (bindings_at room x) j)) (number-some e a i h l)

pub parameter-told : (t : List ℕ) {v : Option ℕ} {k m r : ℕ} → v ≡ Some k → NumberAt t 4 v → m ≡ held k → r ≡ mix 5 m → ParameterAt t r
parameter-told t {m = m} e a f g i h l = let z = number-some e a i h l in g ∙ ap (mix 5) {x = m} {y = i} (omega (arith, f, z, l))

-- what the room says of bindings, where its tables are right
pub candidate-meant : (cs : List Term) (i : ℕ) (t : Term) → get_elem? cs i ≡ some t → t ≡ meant cs (Candidate i)
candidate-meant cs i t e = rw (e, meant) refl

candidate-unlisted : (cs : List Term) (i : ℕ) → get_elem? cs i ≡ none → nothing ≡ meant cs (Candidate i)
candidate-unlisted cs i e = rw (e, meant) refl

pub listed : (room : List ℕ) (i : ℕ) → i < get_or room candidates_word 0 → candidate_key room i ≡ get_or room (kept_word i) 0
unfolding candidate_key
listed room i l = rw (lt-ltb i (get_or room candidates_word 0) l) refl

pub unlisted : (room : List ℕ) (i : ℕ) → get_or room candidates_word 0 ≤ i → candidate_key room i ≡ mix 5 0
unfolding candidate_key
unlisted room i l = rw (le-ltb i (get_or room candidates_word 0) l) refl

binding-says : (room terms : List ℕ) (cs : List Term) → CandidatesIn room terms cs → CandidateKeys room cs → (b : Binding) → binding_key room b ≡ term_key (meant cs b)
unfolding binding_key
binding-says room terms cs C K (Candidate i) = go (ltb i (length cs)) refl
  where
    go : (t : Bool) → ltb i (length cs) ≡ t → candidate_key room i ≡ term_key (meant cs (Candidate i))
    go true e =
        let l = ltb-true i (length cs) e in
        let (t, m) = below-member cs i l in
        listed room i (omega (arith, C.counted, l)) ∙ K.numbers i t m ∙ ap term_key (candidate-meant cs i t m)
    go false e =
        let l = ltb-false i (length cs) e in
        unlisted room i (omega (arith, C.counted, l)) ∙ ap term_key (candidate-unlisted cs i (beyond-none cs i l))
binding-says room terms cs C K (Parameter k) = refl

pub keyed-at : (room terms : List ℕ) (cs : List Term) (x : Spot) → CandidatesIn room terms cs → CandidateKeys room cs → x.count ≤ levels → Keyed room cs x
keyed-at room terms cs x C K l = record {
  few = l;
  says = λ i _. binding-says room terms cs C K (bound_to (bindings_at room x) i) ∙ ap term_key (bound-means cs (bindings_at room x) i);
}

pub keyed-none : (room : List ℕ) (cs : List Term) → Keyed room cs nowhere
keyed-none room cs = record { few = omega arith; says = λ i l. absurd (omega arith) }

-- no word is another
pub no-f-v : octets "f" ≡ octets "v" → ⊥
no-f-v z = let z' : ◌≡◌ {A = ℕ} 118 102 = cc in omega arith

pub no-e-v : octets "e" ≡ octets "v" → ⊥
no-e-v z = let z' : ◌≡◌ {A = ℕ} 118 101 = cc in omega arith

-- how a term begins
module _ (t room : List ℕ) (x : Spot) {r : Bool} (h : Tells r (Stands t 1 (str (octets "v")))) where
  pub begins-variable : {k : ℕ} → r ≡ true → VariableAt t room x k → BeginsAt t room x (Key k)
  begins-variable {k} e says cs holds u K g o = go u g o
    where
      go : (u : Term) → Stands t 0 (term_sexp u) → term_ok holds x.count u ≡ true → k ≡ term_key (replaced cs (bindings_at room x) u)
      go (Term.v i) g o =
          let l = ltb-true i x.count o in
          says i (term-text (Term.v i) g) (omega (arith, l, K.few)) ∙ K.says i l
      go (Term.f m ts) g o = absurd (no-f-v (text-once (term-word (Term.f m ts) g) (told-yes e h)))
      go (Term.e m) g o = absurd (no-e-v (text-once (term-word (Term.e m) g) (told-yes e h)))

  module _ (e : r ≡ false) {q : Bool} (h' : Tells q (Stands t 1 (str (octets "e")))) where
    pub begins-parameter : {k : ℕ} → q ≡ true → ParameterAt t k → BeginsAt t room x (Key k)
    begins-parameter {k} f P cs holds u K g o = go u g o
      where
        go : (u : Term) → Stands t 0 (term_sexp u) → term_ok holds x.count u ≡ true → k ≡ term_key (replaced cs (bindings_at room x) u)
        go (Term.v i) g o = absurd (told-no e h (term-word (Term.v i) g))
        go (Term.f m ts) g o = absurd (no-f-e (text-once (term-word (Term.f m ts) g) (told-yes f h')))
        go (Term.e m) g o = P m (term-text (Term.e m) g) (parameter-small holds m o)

    pub begins-lost : {a : Option ℕ} → q ≡ false → a ≡ None → PastAt t 4 0 a → BeginsAt t room x (Key 0)
    begins-lost f z a cs holds u K g o = go u g
      where
        go : (u : Term) → Stands t 0 (term_sexp u) → 0 ≡ term_key (replaced cs (bindings_at room x) u)
        go (Term.v i) g = absurd (told-no e h (term-word (Term.v i) g))
        go (Term.f m ts) g = absurd (past-nothing z a (str m) (term-text (Term.f m ts) g) (omega arith))
        go (Term.e m) g = absurd (told-no f h' (term-word (Term.e m) g))

    pub begins-rest : {a : Option ℕ} {n k : ℕ} → q ≡ false → a ≡ Some n → PastAt t 4 0 a → TextAt t 4 k → BeginsAt t room x (Rest n k)
    begins-rest {n = n} {k = k} f z a T cs holds u K g o = go u g o
      where
        go : (u : Term) → Stands t 0 (term_sexp u) → term_ok holds x.count u ≡ true → RestOf t room cs x n k holds u
        go (Term.v i) g o = absurd (told-no e h (term-word (Term.v i) g))
        go (Term.f m ts) g o =
            let w = term-text (Term.f m ts) g in
            record {
              ts = ts;
              stands = subst (λ (i : ℕ). StandsAll t i (term_sexps ts)) (sym (ends-here w (past_next z a))) (term-rest (Term.f m ts) g);
              ok = o;
              less = omega arith;
              gives = ap (λ (j : ℕ). terms_key j (replaceds cs (bindings_at room x) ts)) (sym (T m w));
            }
        go (Term.e m) g o = absurd (told-no f h' (term-word (Term.e m) g))

-- the number of a term
module _ (s : List ℕ) (at : ℕ) (room : List ℕ) (x : Spot) (nest : ℕ) where
  pub key-never : nest ≡ 0 → TermAtKey s at room x nest 0
  key-never e cs holds t K h o l n = absurd (omega (arith, term-nests t))

  module _ {t : List ℕ} (p : t ≡ drop at s) {b : Begun} (B : BeginsAt t room x b) where
    begun : {c : Begun} → b ≡ c → (cs : List Term) (holds : Bool) (u : Term) → Keyed room cs x → Stands s at (term_sexp u) → term_ok holds x.count u ≡ true → Begins t room cs x holds u c
    begun e cs holds u K h o = subst (Begins t room cs x holds u) e (B cs holds u K (subst (λ (l : List ℕ). Stands l 0 (term_sexp u)) (sym p) (part-stands h)) o)

    pub key-known : {k : ℕ} → b ≡ Key k → TermAtKey s at room x nest k
    key-known e cs holds u K h o l n = begun e cs holds u K h o

    pub key-rest : {n k : ℕ} (r : ℕ) → b ≡ Rest n k → (nest ≡ 0 → ⊥) → TermsAtKey t n room x k (nest - 1) r → TermAtKey s at room x nest r
    key-rest r e z R cs holds u K h o l n =
        let T = begun e cs holds u K h o in
        R cs holds T.ts K T.stands T.ok (omega (arith, T.less)) (omega (arith, T.less)) ∙ sym T.gives

-- terms still to come, and the number so far
pub record KeysRest (s room : List ℕ) (cs : List Term) (x : Spot) (nest : ℕ) (holds : Bool) (p k whole : ℕ) : Type 0 where
  pub rest : Terms
  pub stands : StandsAll s p (term_sexps rest)
  pub ok : terms_ok holds x.count rest ≡ true
  pub shallow : nestings (term_sexps rest) ≤ levels
  pub less : nestings (term_sexps rest) ≤ nest
  pub same : whole ≡ terms_key k (replaceds cs (bindings_at room x) rest)

abbrev pub KeysLeft : List ℕ → ℕ → List ℕ → Spot → ℕ → ℕ → ℕ → ℕ → Type 0
KeysLeft s at room x h nest p k =
    (cs : List Term) (holds : Bool) (ts : Terms) → Keyed room cs x → StandsAll s at (term_sexps ts) → terms_ok holds x.count ts ≡ true → nestings (term_sexps ts) ≤ levels → nestings (term_sexps ts) ≤ nest
    → KeysRest s room cs x nest holds p k (terms_key h (replaceds cs (bindings_at room x) ts))

-- the next of them, and those after it
record KeysNext (s room : List ℕ) (cs : List Term) (x : Spot) (nest : ℕ) (holds : Bool) (p k whole : ℕ) : Type 0 where
  first : Term
  others : Terms
  stands : StandsAll s p (term_sexps (Terms.cons first others))
  ok : terms_ok holds x.count others ≡ true
  deep : nesting (term_sexp first) ≤ levels
  shallow : nestings (term_sexps others) ≤ levels
  less : nestings (term_sexps others) ≤ nest
  same : whole ≡ terms_key k (replaceds cs (bindings_at room x) others)

module _ (s : List ℕ) (at : ℕ) (room : List ℕ) (x : Spot) (h nest : ℕ) where
  pub keys-start : KeysLeft s at room x h nest at h
  keys-start cs holds ts K g o l n = record { rest = ts; stands = g; ok = o; shallow = l; less = n; same = refl }

  module _ (p k : ℕ) (L : KeysLeft s at room x h nest p k) {c : Bool} (e : c ≡ eqb (get_or s p 0) 41) where
    pub keys-end : c ≡ true → TermsAtKey s at room x h nest k
    keys-end t cs holds ts K g o l n = let R = L cs holds ts K g o l n in go R.rest R.stands R.same
      where
        go : (us : Terms) → StandsAll s p (term_sexps us) → terms_key h (replaceds cs (bindings_at room x) ts) ≡ terms_key k (replaceds cs (bindings_at room x) us) → k ≡ terms_key h (replaceds cs (bindings_at room x) ts)
        go Terms.nil g z = sym z
        go (Terms.cons u us) g z = absurd (no-closing (first-stands g) (eqb-true (get_or s p 0) 41 (sym e ∙ t)))

    module _ (t : c ≡ false) {q : ℕ} (H : TermAtKey s p room x nest q) where
      next : {cs : List Term} {holds : Bool} {whole : ℕ} → Keyed room cs x → KeysRest s room cs x nest holds p k whole → KeysNext s room cs x nest holds p (mix k q) whole
      next {cs} {holds} {whole} K R = go R.rest R.stands R.ok R.shallow R.less R.same
        where
          go : (us : Terms) → StandsAll s p (term_sexps us) → terms_ok holds x.count us ≡ true → nestings (term_sexps us) ≤ levels → nestings (term_sexps us) ≤ nest
              → whole ≡ terms_key k (replaceds cs (bindings_at room x) us) → KeysNext s room cs x nest holds p (mix k q) whole
          go Terms.nil g o l n z = absurd (eqb-false (get_or s p 0) 41 (sym e ∙ t) (none-closes g))
          go (Terms.cons u us) g o l n z =
              let (a, b) = both_true (term_ok holds x.count u) (terms_ok holds x.count us) o in
              let y = H cs holds u K (first-stands g) a (omega (arith, l)) (omega (arith, n)) in
              record {
                first = u;
                others = us;
                stands = g;
                ok = b;
                deep = omega (arith, l);
                shallow = omega (arith, l);
                less = omega (arith, n);
                same = z ∙ ap (λ (j : ℕ). terms_key (mix k j) (replaceds cs (bindings_at room x) us)) (sym y);
              }

      pub keys-lost : {a : Option ℕ} → a ≡ None → PastAt s p 64 a → TermsAtKey s at room x h nest 0
      keys-lost z a cs holds ts K g o l n =
          let N = next K (L cs holds ts K g o l n) in
          absurd (past-nothing z a (term_sexp N.first) (first-stands N.stands) N.deep)

      pub keys-next : {a : Option ℕ} {i : ℕ} (m : ℕ) → m ≡ mix k q → a ≡ Some i → PastAt s p 64 a → KeysLeft s at room x h nest i m
      keys-next {i = i} m y z a cs holds ts K g o l n =
          let N = next K (L cs holds ts K g o l n) in
          record {
            rest = N.others;
            stands = ends-others N.stands (past_next z a);
            ok = N.ok;
            shallow = N.shallow;
            less = N.less;
            same = N.same ∙ ap (λ (j : ℕ). terms_key j (replaceds cs (bindings_at room x) N.others)) (sym y);
          }
