-- Whether a term holds a variable, and the numbers of heads and clauses, made where they stand: through `all` and `imp` to the head, and 0 at an `and`.
use Prim.Native.Nat.{ℕ, suc, ◌+◌, ◌-◌, ◌≤◌}
use mathlib.Core.Path.{◌≡◌, refl, sym, ◌∙◌, ap, subst}
use mathlib.Core.Bool.{Bool, true, false, ◌||◌}
use mathlib.Core.List.{List, []}
use native.Mathlib.Omega.{arith}
use lib.Dec.{eqb}
use lib.ListN.{get_or, drop}
use borrow.Author.Tests.{eqb-true, eqb-false}
use Rattle.basics.specs.Choice.{choose, both_true}
use Rattle.basics.specs.Tells.{Tells, told-yes, told-no}
use Rattle.basics.specs.Text.{octets}
use Rattle.harrop.specs.Formula.{Term, Terms, Atom, Clause}
use Rattle.harrop.specs.Place.{Plain}
use Rattle.packet.specs.Written.{term_sexp, term_sexps, atom_sexp, clause_sexp}
use Rattle.packet.specs.Barred.{atom_ok, goal_ok, clause_ok}
use Rattle.packet.specs.declared.Word.{Word}
use Rattle.packet.specs.declared.Word.TheVariants as W
use Rattle.packet.specs.declared.Kind.TheVariants as K
use Rattle.rows.specs.Rows.{row_of}
use Rattle.packet.specs.Table.{due_after}
use Rattle.reader.specs.WordAt.{WordAt}
use Rattle.std.specs.Prelude.{Option, Some, None}
use Rattle.sexp.specs.Sexp.{Sexp, str, Stands, StandsAll, nesting, nestings}
use Rattle.sexp.specs.Past.{PastAt}
use Rattle.sexp.proofs.AnswerLaws.{past_next, past-nothing}
use Rattle.sexp.proofs.FoundLaws.{ends-here, ends-others}
use Rattle.sexp.proofs.StandLaws.{first-stands, none-closes, no-closing}
use Rattle.room.specs.Layout.{levels}
use Rattle.room.specs.Spot.{bindings_at, nowhere}
use Rattle.room.specs.Files.{Files, file_of}
use Rattle.room.specs.declared.Spot.{Spot}
use Rattle.room.proofs.NestLaws.{term-nests, clause-nests}
use Rattle.equal.proofs.TermLaws.{part-stands, term_text, term_rest, term-word, term-text, term-rest, text-once, atom-text, rest-shallow}
use Rattle.heads.specs.Heads.{clause_word}
use Rattle.heads.proofs.HeadLaws.{clause-says, clause-is, clause-has-row, heads, first_part, second-found, first_found}
use Rattle.mentions.specs.Mentions.{mentions_term, mentions_terms}
use Rattle.keys.specs.Key.{atom_key, predicate_key, clause_key}
use Rattle.keys.specs.Walk.{HasVariable, HaveVariable, PredicateAt, AtomAtKey, HeadAt, ImpAt, ClauseAt}
use Rattle.keys.specs.Keys.{RuleKeyAt}
use Rattle.keys.proofs.KeyLaws.{atom-stays, terms-closed}
use Rattle.keys.proofs.WalkLaws.{keyed-none, no-f-v, no-e-v}
use Rattle.keys.proofs.AtomLaws.{arguments-stand}

-- whether a term holds a variable
module _ (s : List ℕ) (at nest : ℕ) where
  pub has-never : nest ≡ 0 → HasVariable s at nest false
  has-never e t h l n = absurd (omega (arith, term-nests t))

  module _ {t : List ℕ} (p : t ≡ drop at s) where
    here : (u : Term) → Stands s at (term_sexp u) → Stands t 0 (term_sexp u)
    here u h = subst (λ (l : List ℕ). Stands l 0 (term_sexp u)) (sym p) (part-stands h)

    module _ {r : Bool} (h : Tells r (Stands t 1 (str (octets "v")))) where
      pub is-variable : r ≡ true → HasVariable s at nest true
      is-variable e u g l n = go u (here u g)
        where
          go : (u : Term) → Stands t 0 (term_sexp u) → true ≡ mentions_term (λ _. true) u
          go (Term.v i) g = refl
          go (Term.f m ts) g = absurd (no-f-v (text-once (term-word (Term.f m ts) g) (told-yes e h)))
          go (Term.e m) g = absurd (no-e-v (text-once (term-word (Term.e m) g) (told-yes e h)))

      module _ (e : r ≡ false) where
        -- then one of the terms after its name or number does
        by-rest : (u : Term) → Stands t 0 (term_sexp u) → mentions_terms (λ _. true) (term_rest u) ≡ mentions_term (λ _. true) u
        by-rest (Term.v i) g = absurd (told-no e h (term-word (Term.v i) g))
        by-rest (Term.f m ts) g = refl
        by-rest (Term.e m) g = refl

        pub has-lost : {a : Option ℕ} → a ≡ None → PastAt t 4 0 a → HasVariable s at nest false
        has-lost z a u g l n = absurd (past-nothing z a (str (term_text u)) (term-text u (here u g)) (omega arith))

        pub has_rest : {a : Option ℕ} {i : ℕ} (q : Bool) → a ≡ Some i → PastAt t 4 0 a → (nest ≡ 0 → ⊥) → HaveVariable t i (nest - 1) q → HasVariable s at nest q
        has_rest {i = i} q z a y H u g l n =
            let w = here u g in
            H (term_rest u) (subst (λ (j : ℕ). StandsAll t j (term_sexps (term_rest u))) (sym (ends-here (term-text u w) (past_next z a))) (term-rest u w))
            (omega (arith, l, rest-shallow u)) (omega (arith, n, y, rest-less u))
            ∙ by-rest u w
          where
            rest-less : (u : Term) → nestings (term_sexps (term_rest u)) + 1 ≤ nesting (term_sexp u)
            rest-less (Term.v i) = omega arith
            rest-less (Term.f m ts) = omega arith
            rest-less (Term.e m) = omega arith

-- terms still to come, none before them with a variable
pub record HaveRest (s : List ℕ) (nest p : ℕ) (whole : Bool) : Type 0 where
  pub rest : Terms
  pub stands : StandsAll s p (term_sexps rest)
  pub shallow : nestings (term_sexps rest) ≤ levels
  pub less : nestings (term_sexps rest) ≤ nest
  pub same : whole ≡ mentions_terms (λ _. true) rest

abbrev pub HaveLeft : List ℕ → ℕ → ℕ → ℕ → Type 0
HaveLeft s at nest p = (ts : Terms) → StandsAll s at (term_sexps ts) → nestings (term_sexps ts) ≤ levels → nestings (term_sexps ts) ≤ nest → HaveRest s nest p (mentions_terms (λ _. true) ts)

record HaveNext (s : List ℕ) (nest p : ℕ) (r whole : Bool) : Type 0 where
  first : Term
  others : Terms
  stands : StandsAll s p (term_sexps (Terms.cons first others))
  deep : nesting (term_sexp first) ≤ levels
  shallow : nestings (term_sexps others) ≤ levels
  less : nestings (term_sexps others) ≤ nest
  same : whole ≡ r || mentions_terms (λ _. true) others

module _ (s : List ℕ) (at nest : ℕ) where
  pub have-start : HaveLeft s at nest at
  have-start ts g l n = record { rest = ts; stands = g; shallow = l; less = n; same = refl }

  module _ (p : ℕ) (L : HaveLeft s at nest p) {c : Bool} (e : c ≡ eqb (get_or s p 0) 41) where
    pub have-end : c ≡ true → HaveVariable s at nest false
    have-end t ts g l n = let R = L ts g l n in go R.rest R.stands R.same
      where
        go : (us : Terms) → StandsAll s p (term_sexps us) → mentions_terms (λ _. true) ts ≡ mentions_terms (λ _. true) us → false ≡ mentions_terms (λ _. true) ts
        go Terms.nil g z = sym z
        go (Terms.cons u us) g z = absurd (no-closing (first-stands g) (eqb-true (get_or s p 0) 41 (sym e ∙ t)))

    module _ (t : c ≡ false) {r : Bool} (H : HasVariable s p nest r) where
      next : {whole : Bool} → HaveRest s nest p whole → HaveNext s nest p r whole
      next {whole} R = go R.rest R.stands R.shallow R.less R.same
        where
          go : (us : Terms) → StandsAll s p (term_sexps us) → nestings (term_sexps us) ≤ levels → nestings (term_sexps us) ≤ nest → whole ≡ mentions_terms (λ _. true) us → HaveNext s nest p r whole
          go Terms.nil g l n z = absurd (eqb-false (get_or s p 0) 41 (sym e ∙ t) (none-closes g))
          go (Terms.cons u us) g l n z =
              let y = H u (first-stands g) (omega (arith, l)) (omega (arith, n)) in
              record {
                first = u;
                others = us;
                stands = g;
                deep = omega (arith, l);
                shallow = omega (arith, l);
                less = omega (arith, n);
                same = z ∙ ap (λ (b : Bool). b || mentions_terms (λ _. true) us) (sym y);
              }

      pub have-found : r ≡ true → HaveVariable s at nest true
      have-found y ts g l n =
          let N = next (L ts g l n) in
          sym (N.same ∙ ap (λ (b : Bool). b || mentions_terms (λ _. true) N.others) y)

      pub have-lost : {a : Option ℕ} → a ≡ None → PastAt s p 64 a → HaveVariable s at nest false
      have-lost z a ts g l n =
          let N = next (L ts g l n) in
          absurd (past-nothing z a (term_sexp N.first) (first-stands N.stands) N.deep)

      pub have-next : {a : Option ℕ} {i : ℕ} → r ≡ false → a ≡ Some i → PastAt s p 64 a → HaveLeft s at nest i
      have-next y z a ts g l n =
          let N = next (L ts g l n) in
          record {
            rest = N.others;
            stands = ends-others N.stands (past_next z a);
            shallow = N.shallow;
            less = N.less;
            same = N.same ∙ ap (λ (b : Bool). b || mentions_terms (λ _. true) N.others) y;
          }

-- a head: its own number if it holds no variable, else its predicate's
module _ (t : List ℕ) {a : Option ℕ} (q : PastAt t 7 0 a) where
  pub head-lost : (r : ℕ) → a ≡ None → HeadAt t r
  head-lost r z (Atom.atom m ts) n g l o = absurd (past-nothing z q (str m) (atom-text m ts g) (omega arith))

  module _ {i : ℕ} (z : a ≡ Some i) {v : Bool} (H : HaveVariable t i 64 v) where
    mentions : (m : List ℕ) (ts : Terms) → Stands t 0 (atom_sexp (Atom.atom m ts)) → nesting (atom_sexp (Atom.atom m ts)) ≤ levels → v ≡ mentions_terms (λ _. true) ts
    mentions m ts g l = H ts (arguments-stand t m ts z q g) (omega (arith, l)) (omega (arith, l))

    pub head-open : (r : ℕ) → v ≡ true → PredicateAt t r → HeadAt t r
    head-open r y P (Atom.atom m ts) n g l o =
        P (Atom.atom m ts) g l ∙ ap (λ (b : Bool). choose b (predicate_key (Atom.atom m ts)) (atom_key (Atom.atom m ts))) (sym y ∙ mentions m ts g l)

    pub head-closed : (room : List ℕ) {x : Spot} (r : ℕ) → v ≡ false → x ≡ nowhere → AtomAtKey t room x r → HeadAt t r
    head-closed room {x} r y e G (Atom.atom m ts) n g l o =
        let none : mentions_terms (λ _. true) ts ≡ false = sym (mentions m ts g l) ∙ y in
        subst (λ (w : Spot). AtomAtKey t room w r) e G [] (Atom.atom m ts) (keyed-none room []) g l (terms-closed false n ts none o)
        ∙ ap atom_key (atom-stays [] (bindings_at room nowhere) (Atom.atom m ts) none)
        ∙ ap (λ (b : Bool). choose b (predicate_key (Atom.atom m ts)) (atom_key (Atom.atom m ts))) (sym none)

-- behind an implication
module _ (t : List ℕ) {a : Option ℕ} (q : PastAt t 6 64 a) where
  pub imp-lost : (r : ℕ) → a ≡ None → ImpAt t r
  imp-lost r z g b n h l o = absurd (first_found (octets "imp") heads.1.1.1.1 h (omega (arith, l)) q z)

  pub imp_head : {i : ℕ} {w : List ℕ} (r : ℕ) → a ≡ Some i → w ≡ drop i t → HeadAt w r → ImpAt t r
  imp_head {i} {w} r z e H g b n h l o =
      let st = subst (λ (j : ℕ). Stands t j (atom_sexp b)) {x = 0 + i} {y = i} (omega arith) (second-found (octets "imp") heads.1.1.1.1 h q z) in
      H b n (subst (λ (k : List ℕ). Stands k 0 (atom_sexp b)) (sym e) (part-stands st)) (omega (arith, l)) (both_true (goal_ok n g) (atom_ok n b) o).1

-- a clause, by its word
module _ (s : List ℕ) (at nest : ℕ) where
  abbrev Claim : ℕ → Clause Plain → Type 0
  Claim r d = (n : ℕ) → Stands s at (clause_sexp d) → nesting (clause_sexp d) ≤ levels → nesting (clause_sexp d) ≤ nest → clause_ok n d ≡ true → r ≡ clause_key d

  pub clause-never : nest ≡ 0 → ClauseAt s at nest 0
  clause-never e d n g l k o = absurd (omega (arith, clause-nests d))

  module _ {t : List ℕ} (p : t ≡ drop at s) {k : Word} (q : WordAt t 1 k) where
    says : (d : Clause Plain) → Stands s at (clause_sexp d) → k ≡ clause_word d
    says d g = clause-says s at d k g (subst (λ (l : List ℕ). WordAt l 1 k) p q)

    there : (e : Sexp) → Stands s at e → Stands t 0 e
    there e g = subst (λ (l : List ℕ). Stands l 0 e) (sym p) (part-stands g)

    pub clause-atom : (r : ℕ) → k ≡ W.Atom → HeadAt t r → ClauseAt s at nest r
    clause-atom r e H d n g =
        let (b, y) = clause-is d (sym (says d g) ∙ e) in
        subst (λ (z : Clause Plain). Claim r z) (sym y) (λ n g l m o. H b n (there (atom_sexp b) g) l o) n g

    pub clause-imp : (r : ℕ) → k ≡ W.Imp → ImpAt t r → ClauseAt s at nest r
    clause-imp r e H d n g =
        let (c, b, y) = clause-is d (sym (says d g) ∙ e) in
        subst (λ (z : Clause Plain). Claim r z) (sym y) (λ n g l m o. H c b n (there (clause_sexp (Clause.imp_d c b)) g) l o) n g

    pub clause-and : k ≡ W.And → ClauseAt s at nest 0
    clause-and e d n g =
        let (c, b, y) = clause-is d (sym (says d g) ∙ e) in
        subst (λ (z : Clause Plain). Claim 0 z) (sym y) (λ n g l m o. refl) n g

    pub clause-all : (r : ℕ) → k ≡ W.All → (nest ≡ 0 → ⊥) → ClauseAt t 6 (nest - 1) r → ClauseAt s at nest r
    clause-all r e w H d n g =
        let (c, b, y) = clause-is d (sym (says d g) ∙ e) in
        subst (λ (z : Clause Plain). Claim r z) (sym y)
        (λ n g l m o. H b (suc n) (subst (λ (j : ℕ). Stands t j (clause_sexp b)) {x = 0 + 6} {y = 6} (omega arith) (first_part (octets "all") heads.1.1.1.0 (there (clause_sexp (Clause.all_d c b)) g))) (omega (arith, l)) (omega (arith, m, w)) o)
        n g

    pub clause-other : None ≡ row_of (due_after K.Clause k) → ClauseAt s at nest 0
    clause-other w d n g l m o = absurd (clause-has-row d k (says d g) w)

-- at a spot
pub rule-there : (f : Files) (x : Spot) {s : List ℕ} (r : ℕ) → s ≡ drop 0 (file_of f x.source) → ClauseAt s x.at 64 r → RuleKeyAt f x r
rule-there f x r e H d n T o = H d n (subst (λ (l : List ℕ). Stands l x.at (clause_sexp d)) (sym e) T.stands) T.shallow T.shallow o
