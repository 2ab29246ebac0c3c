-- How the tables of rules and candidates are filled, and what they say of which candidates may be used.
use Prim.Native.Nat.{ℕ, zero, suc, ◌+◌, ◌-◌, ◌≤◌, ◌<◌, max, min}
use mathlib.Core.Path.{◌≡◌, refl, sym, ◌∙◌, ap, subst}
use mathlib.Core.Bool.{Bool, true, false, ◌&&◌}
use mathlib.Core.List.{List, [], ◌∷◌}
use mathlib.Core.Option.{Option, none, some, some-injective}
use native.Mathlib.Omega.{arith}
use lib.Dec.{leb, ltb}
use lib.ListN.{length, get_or, take, drop, set, length-set, get_elem?}
use lib.Seq.{take-set-le, drop-set-lt, drop-drop, get_or-set_same, get_or-set_other}
use borrow.Author.Tests.{ltb-true, ltb-false, lt-ltb, le-ltb}
use Rattle.basics.specs.Choice.{nope}
use Rattle.basics.specs.Text.{octets}
use Rattle.harrop.specs.Formula.{Term, Terms, Clause}
use Rattle.harrop.specs.Bindings.{highest}
use Rattle.harrop.specs.Place.{Plain, listed, allowed}
use Rattle.harrop.proofs.ListLaws.{member_below, below-member, beyond-none}
use Rattle.packet.specs.Written.{word, each, term_sexp, clause_sexp, rules_sexp, terms_sexp}
use Rattle.packet.specs.Barred.{term_ok}
use Rattle.packet.specs.File.{most_bytes}
use Rattle.std.specs.Prelude as std
use Rattle.std.specs.Prelude.{Some, None}
use Rattle.sexp.specs.Decimal.{decimal_onto}
use Rattle.sexp.specs.Sexp.{Sexp, Sexps, str, list, nil, cons, spell, Stands, StandsAll, nesting, nestings}
use Rattle.sexp.specs.Past.{Ends, PastAt}
use Rattle.sexp.proofs.AnswerLaws.{past_next, past-nothing}
use Rattle.sexp.proofs.StandLaws.{stands-once, stands-inside, first-stands, others-stand, members-stand, none-closes, no-closing, whole-stands}
use Rattle.room.specs.Layout.{words, levels, rules_word, rule_word, candidates_word, candidate_word, highest_word, supposed_word, rules_at_most, candidates_at_most}
use Rattle.room.specs.Frame.{held}
use Rattle.room.specs.Table.{RulesIn, CandidatesIn, members, member, StartsIn, HighestAt, RulesFilled, CandidatesFilled}
use Rattle.start.specs.Head.{HighestIn}
use Rattle.room.proofs.FrameLaws.{word_kept, kept-below}
use Rattle.room.proofs.NestLaws.{candidate-nests}
use Rattle.start.proofs.HighLaws.{highest-small}

-- members of a list, and what each writes
pub members-each : {A : Type 0} (f : A → Sexp) (xs : List A) → members (each f xs) ≡ length xs
members-each f [] = refl
members-each f (x ∷ xs) = ap suc (members-each f xs)

pub member-each : {A : Type 0} (f : A → Sexp) (xs : List A) (i : ℕ) (x : A) → get_elem? xs i ≡ some x → member (each f xs) i ≡ some (f x)
member-each f [] i x e = nope e
member-each f (y ∷ xs) zero x e = ap (λ z. some (f z)) (some-injective y x e)
member-each f (y ∷ xs) (suc i) x e = member-each f xs i x e

member-inside : (xs : Sexps) (i : ℕ) (x : Sexp) → member xs i ≡ some x → i < members xs
member-inside nil i x e = nope e
member-inside (cons y xs) zero x e = omega arith
member-inside (cons y xs) (suc i) x e = omega (arith, member-inside xs i x e)

-- what is asked of a list whose members' starts are kept
pub record Asked (before s : List ℕ) (at base : ℕ) (xs : Sexps) : Type 0 where
  pub stands : StandsAll s at xs
  pub shallow : nestings xs ≤ levels
  pub few : members xs ≤ 256
  pub short : length s ≤ most_bytes
  pub room : base + 256 ≤ length before

-- the members still to come at p, k of them done
pub record Rest (now s : List ℕ) (base k p : ℕ) (xs : Sexps) : Type 0 where
  pub rest : Sexps
  pub stands : StandsAll s p rest
  pub shallow : nestings rest ≤ levels
  pub count : members xs ≡ k + members rest
  pub done : (i : ℕ) (x : Sexp) → member xs i ≡ some x → i < k → Stands s (get_or now (base + i) 0) x
  pub next : (i : ℕ) → member rest i ≡ member xs (k + i)

pub record Filling (before now s : List ℕ) (at base k p : ℕ) : Type 0 where
  pub few : k ≤ 256
  pub long : length now ≡ length before
  pub below : take base now ≡ take base before
  pub above : drop (base + 256) now ≡ drop (base + 256) before
  pub left : (xs : Sexps) → Asked before s at base xs → Rest now s base k p xs

module _ (before s : List ℕ) (at base : ℕ) where
  pub filling-start : Filling before before s at base 0 at
  filling-start = record {
    few = omega arith;
    long = refl;
    below = refl;
    above = refl;
    left = λ xs q. record {
      rest = xs;
      stands = q.stands;
      shallow = q.shallow;
      count = omega arith;
      done = λ i x e l. absurd (omega arith);
      next = λ i. ap (member xs) {x = i} {y = 0 + i} (omega arith);
    };
  }

  module _ {now : List ℕ} {k p : ℕ} (F : Filling before now s at base k p) where
    answer : ((xs : Sexps) → Asked before s at base xs → k ≡ members xs) → StartsIn before now s at base k
    answer all = record {
      few = F.few;
      long = F.long;
      below = F.below;
      above = F.above;
      all = λ xs a b c d e. all xs (record { stands = a; shallow = b; few = c; short = d; room = e });
      starts = λ xs a b c d e i x m.
          let q : Asked before s at base xs = record { stands = a; shallow = b; few = c; short = d; room = e } in
          (F.left xs q).done i x m (omega (arith, member-inside xs i x m, all xs q));
    }

    -- no further member stands there
    pub filling-end : {a : std.Option ℕ} → a ≡ None → PastAt s p 64 a → StartsIn before now s at base k
    filling-end z a = answer all
      where
        all : (xs : Sexps) → Asked before s at base xs → k ≡ members xs
        all xs q = let R = F.left xs q in go R.rest R.stands R.shallow R.count
          where
            go : (ys : Sexps) → StandsAll s p ys → nestings ys ≤ levels → members xs ≡ k + members ys → k ≡ members xs
            go nil h l c = omega arith
            go (cons y ys) h l c = absurd (past-nothing z a y (first-stands h) (omega arith))

    -- or 256 are done
    pub filling-full : 256 ≤ k → StartsIn before now s at base k
    filling-full h = answer λ xs q. omega (arith, (F.left xs q).count, q.few, F.few)

    -- one member more
    pub filling-next : {after : List ℕ} {a : std.Option ℕ} {n : ℕ} (w : ℕ) → a ≡ Some n → PastAt s p 64 a → k < 256 → w ≡ held p → after ≡ set now (base + k) w → Filling before after s at base (k + 1) n
    filling-next {after} {a} {n} w z b l e f = subst (λ (r : List ℕ). Filling before r s at base (k + 1) n) (sym f) (record {
      few = omega arith;
      long = length-set now (base + k) w ∙ F.long;
      below = take-set-le base now (base + k) w (omega arith) ∙ F.below;
      above = drop-set-lt (base + 256) now (base + k) w (omega arith) ∙ F.above;
      left = left;
    })
      where
        left : (xs : Sexps) → Asked before s at base xs → Rest (set now (base + k) w) s base (k + 1) n xs
        left xs q = let R = F.left xs q in go R.rest R.stands R.shallow R.count R.done R.next
          where
            go : (ys : Sexps) → StandsAll s p ys → nestings ys ≤ levels → members xs ≡ k + members ys
                → ((i : ℕ) (x : Sexp) → member xs i ≡ some x → i < k → Stands s (get_or now (base + i) 0) x) → ((i : ℕ) → member ys i ≡ member xs (k + i)) → Rest (set now (base + k) w) s base (k + 1) n xs
            go nil h d c g m = absurd (no-closing (past_next z b).stands (none-closes h))
            go (cons y ys) h d c g m =
                let E = past_next z b in
                let j = E.ends ∙ ap (λ (x : Sexp). p + length (spell x)) (stands-once E.stands (first-stands h)) in
                record {
                  rest = ys;
                  stands = subst (λ (i : ℕ). StandsAll s i ys) (sym j) (others-stand h);
                  shallow = omega arith;
                  count = omega arith;
                  done = done;
                  next = λ i. m (suc i) ∙ ap (member xs) {x = k + suc i} {y = k + 1 + i} (omega arith);
                }
              where
                same : w ≡ p
                same = let i = stands-inside (first-stands h) in omega (arith, e, i, q.short)

                done : (i : ℕ) (x : Sexp) → member xs i ≡ some x → i < k + 1 → Stands s (get_or (set now (base + k) w) (base + i) 0) x
                done i x v u = by (ltb i k) refl
                  where
                    by : (t : Bool) → ltb i k ≡ t → Stands s (get_or (set now (base + k) w) (base + i) 0) x
                    by true t =
                        let o = ltb-true i k t in
                        subst (λ (r : ℕ). Stands s r x) (sym (get_or-set_other now (base + k) (base + i) w 0 (omega arith))) (g i x v o)
                    by false t =
                        let o = ltb-false i k t in
                        let ik : i ≡ k = omega arith in
                        let val : get_or (set now (base + k) w) (base + i) 0 ≡ p =
                        ap (λ (r : ℕ). get_or (set now (base + k) w) (base + r) 0) ik ∙ get_or-set_same now (base + k) w 0 (omega (arith, F.long, q.room)) ∙ same in
                        let here : member xs k ≡ some y = sym (m 0 ∙ ap (member xs) {x = k + 0} {y = k} (omega arith)) in
                        let yx = some-injective y x (sym here ∙ sym (ap (member xs) ik) ∙ v) in
                        subst (λ (r : ℕ). Stands s r x) (sym val) (subst (λ (r : Sexp). Stands s p r) yx (first-stands h))

-- the members after the word of a file
pub file-members : (w : List ℕ) (n : ℕ) (xs : Sexps) {s : List ℕ} → length (spell (str w)) ≡ n → s ≡ spell (word w xs) → StandsAll s (1 + n) xs
file-members w n xs {s} e h = subst (λ (k : ℕ). StandsAll s (1 + k) xs) e (others-stand {x = str w} (members-stand (whole-stands {e = word w xs} h)))

rules-word : length (spell (str (octets "rules"))) ≡ 7
unfolding decimal_onto
rules-word = refl

terms-word : length (spell (str (octets "terms"))) ≡ 7
unfolding decimal_onto
terms-word = refl

-- what is above a lower word is above a higher one
pub kept_above : (r s : List ℕ) (low high : ℕ) → drop low r ≡ drop low s → low ≤ high → drop high r ≡ drop high s
kept_above r s low high e h =
    let k : low + (high - low) ≡ high = omega arith in
    ap (λ (i : ℕ). drop i r) (sym k) ∙ sym (drop-drop (high - low) low r) ∙ ap (drop (high - low)) e ∙ drop-drop (high - low) low s ∙ ap (λ (i : ℕ). drop i s) k

-- the table of rules
pub rules-filled : (before mid after rules : List ℕ) (n w : ℕ) → StartsIn before mid rules 8 1 n → w ≡ held n → after ≡ set mid 0 w → RulesFilled before after rules
rules-filled before mid after rules n w S e f = subst (λ (r : List ℕ). RulesFilled before r rules) (sym f) (record {
  long = length-set mid 0 w ∙ S.long;
  kept = drop-set-lt 257 mid 0 w (omega arith) ∙ S.above;
  right = right;
})
  where
    right : (ds : List (Clause Plain)) → rules ≡ spell (rules_sexp ds) → length ds ≤ rules_at_most → nesting (rules_sexp ds) ≤ levels → length rules ≤ most_bytes → words ≤ length before → RulesIn (set mid 0 w) rules ds
    right ds h l d b r =
        let xs = each clause_sexp ds in
        let c = members-each clause_sexp ds in
        let A = file-members (octets "rules") 7 xs rules-word h in
        let m = S.all xs A (omega arith) (omega arith) b (omega arith) in
        record {
          counted = get_or-set_same mid 0 w 0 (omega (arith, S.long)) ∙ omega (arith, e, m, c);
          few = l;
          starts = λ k x g. subst (λ (i : ℕ). Stands rules i (clause_sexp x)) (sym (get_or-set_other mid 0 (1 + k) w 0 (omega arith))) (S.starts xs A (omega arith) (omega arith) b (omega arith) k (clause_sexp x) (member-each clause_sexp ds k x g));
        }

-- the highest parameters of the first candidates
module _ (before terms : List ℕ) where
  pub high-none : HighestIn before before terms 0
  high-none = record { long = refl; below = refl; above = refl; right = λ r i l t h o d. absurd (omega arith) }

  pub high-more : {now after : List ℕ} {k : ℕ} (w h a : ℕ) → HighestIn before now terms k → k < 256 → a ≡ get_or now (258 + k) 0 → HighestAt terms a 64 h → w ≡ held h → after ≡ set now (514 + k) w → HighestIn before after terms (k + 1)
  high-more {now} {after} {k} w h a H l e G u f = subst (λ (r : List ℕ). HighestIn before r terms (k + 1)) (sym f) (record {
    long = length-set now (514 + k) w ∙ H.long;
    below = take-set-le 514 now (514 + k) w (omega arith) ∙ H.below;
    above = drop-set-lt 770 now (514 + k) w (omega arith) ∙ H.above;
    right = right;
  })
    where
      right : words ≤ length before → (i : ℕ) → i < k + 1 → (t : Term) → Stands terms (get_or before (candidate_word i) 0) (term_sexp t) → term_ok true 0 t ≡ true → nesting (term_sexp t) ≤ levels
          → get_or (set now (514 + k) w) (highest_word i) 0 ≡ highest t
      right r i j t s o d = by (ltb i k) refl
        where
          by : (b : Bool) → ltb i k ≡ b → get_or (set now (514 + k) w) (highest_word i) 0 ≡ highest t
          by true b = let v = ltb-true i k b in get_or-set_other now (514 + k) (514 + i) w 0 (omega arith) ∙ H.right r i v t s o d
          by false b =
              let v = ltb-false i k b in
              let ik : i ≡ k = omega arith in
              let at : a ≡ get_or before (258 + i) 0 = e ∙ word_kept now before 514 (258 + k) H.below (omega arith) ∙ ap (λ (x : ℕ). get_or before (258 + x) 0) (sym ik) in
              let g = G t (subst (λ (x : ℕ). Stands terms x (term_sexp t)) (sym at) s) o d d in
              let m = highest-small t o in
              ap (λ (x : ℕ). get_or (set now (514 + k) w) (514 + x) 0) ik ∙ get_or-set_same now (514 + k) w 0 (omega (arith, H.long)) ∙ omega (arith, u, g, m)

-- the table of candidates
pub candidates-filled : (before mid next after terms : List ℕ) (n w : ℕ) → StartsIn before mid terms 8 258 n → w ≡ held n → next ≡ set mid 257 w → HighestIn next after terms n → CandidatesFilled before after terms
candidates-filled before mid next after terms n w S e f H = record {
  long = H.long ∙ ap length f ∙ length-set mid 257 w ∙ S.long;
  below = kept-below after next 257 514 H.below (omega arith) ∙ ap (take 257) f ∙ take-set-le 257 mid 257 w (omega arith) ∙ kept-below mid before 257 258 S.below (omega arith);
  kept = H.above ∙ ap (drop 770) f ∙ drop-set-lt 770 mid 257 w (omega arith) ∙ kept_above mid before 514 770 S.above (omega arith);
  right = right;
}
  where
    long : length next ≡ length before
    long = ap length f ∙ length-set mid 257 w ∙ S.long

    right : (ts : List Term) → terms ≡ spell (terms_sexp ts) → length ts ≤ candidates_at_most → nesting (terms_sexp ts) ≤ levels → ((i : ℕ) (t : Term) → get_elem? ts i ≡ some t → term_ok true 0 t ≡ true)
        → length terms ≤ most_bytes → words ≤ length before → CandidatesIn after terms ts
    right ts h l d o b r =
        let xs = each term_sexp ts in
        let c = members-each term_sexp ts in
        let A = file-members (octets "terms") 7 xs terms-word h in
        let m = S.all xs A (omega arith) (omega arith) b (omega arith) in
        record {
          counted = word_kept after next 514 257 H.below (omega arith) ∙ ap (λ (x : List ℕ). get_or x 257 0) f ∙ get_or-set_same mid 257 w 0 (omega (arith, S.long)) ∙ omega (arith, e, m, c);
          few = l;
          starts = λ i t g. subst (λ (x : ℕ). Stands terms x (term_sexp t)) (sym (word_kept after next 514 (258 + i) H.below (omega (arith, member_below ts i t g)))) (start A i t g);
          highests = λ i t g. H.right (omega (arith, long)) i (omega (arith, m, c, member_below ts i t g)) t (start A i t g) (o i t g) (omega (arith, candidate-nests ts i t g));
          closed = o;
          shallow = λ i t g. omega (arith, candidate-nests ts i t g);
        }
      where
        start : StandsAll terms 8 (each term_sexp ts) → (i : ℕ) (t : Term) → get_elem? ts i ≡ some t → Stands terms (get_or next (258 + i) 0) (term_sexp t)
        start A i t g =
            let c = members-each term_sexp ts in
            subst (λ (x : ℕ). Stands terms x (term_sexp t)) (sym (ap (λ (x : List ℕ). get_or x (258 + i) 0) f ∙ get_or-set_other mid 257 (258 + i) w 0 (omega arith)))
            (S.starts (each term_sexp ts) A (omega arith) (omega arith) b (omega arith) i (term_sexp t) (member-each term_sexp ts i t g))

-- what the tables say of a candidate is whether it may be used
pub table-allowed : (room terms : List ℕ) (ts : List Term) (o : List Plain) (q : Plain) (i : ℕ) → CandidatesIn room terms ts
    → (ltb i (get_or room candidates_word 0) && leb (get_or room (highest_word i) 0) (length o)) ≡ allowed (listed ts) o q i
table-allowed room terms ts o q i C = by (ltb i (length ts)) refl
  where
    and-true : (b : Bool) → b ≡ (b && true)
    and-true true = refl
    and-true false = refl

    by : (b : Bool) → ltb i (length ts) ≡ b → (ltb i (get_or room candidates_word 0) && leb (get_or room (highest_word i) 0) (length o)) ≡ allowed (listed ts) o q i
    by true b =
        let l = ltb-true i (length ts) b in
        let (t, g) = below-member ts i l in
        rw (lt-ltb i (get_or room candidates_word 0) (omega (arith, C.counted, l)), C.highests i t g) (rw (g, allowed) (and-true (leb (highest t) (length o))))
    by false b =
        let l = ltb-false i (length ts) b in
        rw (le-ltb i (get_or room candidates_word 0) (omega (arith, C.counted, l))) (rw (beyond-none ts i l, allowed) refl)

-- the code's two tests of a candidate
pub may-below : (room : List ℕ) (p i w : ℕ) → w ≡ get_or room candidates_word 0 → i < w → (h : ℕ) → h ≡ get_or room (highest_word i) 0 → (ltb i (get_or room candidates_word 0) && leb (get_or room (highest_word i) 0) p) ≡ leb h p
may-below room p i w e l h f = rw (lt-ltb i (get_or room candidates_word 0) (omega arith)) (ap (λ (x : ℕ). leb x p) (sym f))

pub may-beyond : (room : List ℕ) (p i w : ℕ) → w ≡ get_or room candidates_word 0 → w ≤ i → (ltb i (get_or room candidates_word 0) && leb (get_or room (highest_word i) 0) p) ≡ false
may-beyond room p i w e l = rw (le-ltb i (get_or room candidates_word 0) (omega arith)) refl
