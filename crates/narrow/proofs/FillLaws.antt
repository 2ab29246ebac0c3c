-- The table of heads in the room, rule by rule: nothing else of the room is written, and what is written is what the rules' heads are (document 02, Three).
use Prim.Native.Nat.{ℕ, ◌+◌, ◌≤◌, ◌<◌, min}
use native.Mathlib.Omega.{arith}
use mathlib.Core.Path.{◌≡◌, refl, sym, ◌∙◌, ap, subst}
use mathlib.Core.Bool.{Bool, true, false}
use mathlib.Core.List.{List}
use mathlib.Core.Option.{Option, none, some, some-injective}
use lib.Dec.{ltb}
use lib.ListN.{length, get_or, set, length-set}
use lib.Seq.{get_or-set_same, get_or-set_other}
use borrow.Author.Tests.{ltb-true, ltb-false}
use Rattle.basics.specs.Choice.{nope}
use Rattle.harrop.specs.Formula.{Term, Atom, Clause}
use Rattle.harrop.specs.Place.{Plain}
use Rattle.harrop.proofs.ListLaws.{member_below}
use Rattle.sexp.specs.Sexp.{Stands, nesting}
use Rattle.sexp.proofs.StandLaws.{stands-before}
use Rattle.packet.specs.Written.{atom_sexp, clause_sexp}
use Rattle.packet.specs.File.{most_bytes}
use Rattle.room.specs.Layout.{words, levels, rule_word}
use Rattle.room.specs.Where.{Booked}
use Rattle.room.specs.Files.{files_of}
use Rattle.room.proofs.FrameLaws.{held_same}
use Rattle.keys.specs.Keys.{PredicateKeyAt}
use Rattle.keys.proofs.ChainLaws.{within_none, within_more}
use Rattle.narrow.specs.Heads.{head_of, in_rules, predicate_word, head_word, heads_end, HeadIn, HeadsIn, HeadIs, HeadAt, PredicateOf, place_of, HeadsDone, HeadsFilled}
use Rattle.std.specs.Prelude.{Some, None}
use Rattle.std.specs.Prelude as Std

-- a head nests no deeper than its clause
pub head-nests : (d : Clause Plain) (b : Atom) → head_of d ≡ some b → nesting (atom_sexp b) ≤ nesting (clause_sexp d)
head-nests (Clause.atom_d a) b e = let z = ap (λ (x : Atom). nesting (atom_sexp x)) (some-injective a b e) in omega arith
head-nests (Clause.imp_d g a) b e = let z = ap (λ (x : Atom). nesting (atom_sexp x)) (some-injective a b e) in omega arith
head-nests (Clause.all_d q d) b e = omega (arith, head-nests d b e)
head-nests (Clause.and_d c d) b e = nope e

-- what is kept of a head
module _ (s : List ℕ) {h : Std.Option ℕ} where
  pub no-predicate : h ≡ None → PredicateOf s h 0
  no-predicate e = subst (λ (z : Std.Option ℕ). PredicateOf s z 0) (sym e) refl

  pub predicate-there : {i r : ℕ} → h ≡ Some i → PredicateKeyAt (files_of s s s) (in_rules i) r → PredicateOf s h r
  predicate-there {r = r} e P = subst (λ (z : Std.Option ℕ). PredicateOf s z r) (sym e) (λ b g l. P b (record { stands = g; shallow = l }))

-- a table with the same words says the same
alike : (rules r s : List ℕ) (k : ℕ) → get_or r (predicate_word k) 0 ≡ get_or s (predicate_word k) 0 → get_or r (head_word k) 0 ≡ get_or s (head_word k) 0 → (o : Option Atom) → HeadIn s rules k o → HeadIn r rules k o
alike rules r s k e g none h = e ∙ h
alike rules r s k e g (some b) h = (e ∙ h.0, subst (λ (i : ℕ). Stands rules i (atom_sexp b)) (sym g) h.1)

pub heads-kept : (rules r s : List ℕ) (ds : List (Clause Plain)) → ((k : ℕ) → k < length ds → (get_or r (predicate_word k) 0 ≡ get_or s (predicate_word k) 0) × (get_or r (head_word k) 0 ≡ get_or s (head_word k) 0)) → HeadsIn s rules ds → HeadsIn r rules ds
heads-kept rules r s ds e h k d m =
    let (p, q) = e k (member_below ds k d m) in
    alike rules r s k p q (head_of d) (h k d m)

-- the two words of rule i written
module _ (rules now : List ℕ) (i p q : ℕ) (l : i < 256) where
  abbrev written : List ℕ
  written = set (set now (3712 + i) p) (3968 + i) q

  older : (j : ℕ) → j < i → (o : Option Atom) → HeadIn now rules j o → HeadIn written rules j o
  older j m o =
      alike rules written now j
      (get_or-set_other (set now (3712 + i) p) (3968 + i) (3712 + j) q 0 (omega arith) ∙ get_or-set_other now (3712 + i) (3712 + j) p 0 (omega arith))
      (get_or-set_other (set now (3712 + i) p) (3968 + i) (3968 + j) q 0 (omega arith) ∙ get_or-set_other now (3712 + i) (3968 + j) p 0 (omega arith))
      o

  module _ (long : heads_end ≤ length now) (small : length rules ≤ most_bytes) where
    number : get_or written (predicate_word i) 0 ≡ p
    number = get_or-set_other (set now (3712 + i) p) (3968 + i) (3712 + i) q 0 (omega arith) ∙ get_or-set_same now (3712 + i) p 0 (omega (arith, l, long))

    place : get_or written (head_word i) 0 ≡ q
    place = get_or-set_same (set now (3712 + i) p) (3968 + i) q 0 (omega (arith, length-set now (3712 + i) p, l, long))

    newest : (h : Std.Option ℕ) (o : Option Atom) → PredicateOf rules h p → q ≡ place_of h → ((b : Atom) → o ≡ some b → nesting (atom_sexp b) ≤ levels) → HeadIs rules h o → HeadIn written rules i o
    unfolding place_of
    newest None none P Q n t = number ∙ P
    newest None (some b) P Q n t = absurd t
    newest (Some x) none P Q n t = absurd t
    newest (Some x) (some b) P Q n t =
        let inside = stands-before t in
        (number ∙ P b t (n b refl), subst (λ (j : ℕ). Stands rules j (atom_sexp b)) (sym (place ∙ Q ∙ held_same x (omega arith))) t)

-- the heads of rules
pub heads-none : (before rules : List ℕ) → HeadsDone before before rules 0
heads-none before rules = record { within = within_none before (predicate_word 0) heads_end; right = λ r z k l d g n. absurd (omega arith) }

pub heads-more : (before rules : List ℕ) {now mid after : List ℕ} {i : ℕ} (h : Std.Option ℕ) (a p q : ℕ) → HeadsDone before now rules i → i < 256 → a ≡ get_or now (1 + i) 0 → HeadAt rules a 64 h → PredicateOf rules h p → q ≡ place_of h
    → mid ≡ set now (3712 + i) p → after ≡ set mid (3968 + i) q → HeadsDone before after rules (i + 1)
heads-more before rules {now} {mid} {after} {i} h a p q D l e G P Q f g = subst (λ (r : List ℕ). HeadsDone before r rules (i + 1)) (sym (g ∙ ap (λ (r : List ℕ). set r (3968 + i) q) f)) (record {
  within = within_more before (set now (3712 + i) p) (predicate_word 0) heads_end (3968 + i) q (within_more before now (predicate_word 0) heads_end (3712 + i) p D.within (omega arith) (omega (arith, l))) (omega arith) (omega (arith, l));
  right = right;
})
  where
    right : heads_end ≤ length before → length rules ≤ most_bytes → (j : ℕ) → j < i + 1 → (d : Clause Plain) → Stands rules (get_or before (rule_word j) 0) (clause_sexp d) → nesting (clause_sexp d) ≤ levels
        → HeadIn (written rules now i p q l) rules j (head_of d)
    right r z j m d s n = by (ltb j i) refl
      where
        by : (b : Bool) → ltb j i ≡ b → HeadIn (written rules now i p q l) rules j (head_of d)
        by true b = let v = ltb-true j i b in older rules now i p q l j v (head_of d) (D.right r z j v d s n)
        by false b =
            let v = ltb-false j i b in
            let ij : i ≡ j = omega arith in
            let at : a ≡ get_or before (1 + j) 0 = e ∙ D.within.below (1 + i) (omega (arith, l)) ∙ ap (λ (k : ℕ). get_or before (1 + k) 0) ij in
            let found = G d (subst (λ (k : ℕ). Stands rules k (clause_sexp d)) (sym at) s) n n z in
            subst (λ (k : ℕ). HeadIn (written rules now i p q l) rules k (head_of d)) ij
            (newest rules now i p q l (omega (arith, D.within.long, r)) z h (head_of d) P Q (λ c y. omega (arith, head-nests d c y, n)) found)

-- the table is right once all rules are in it
pub heads-filled : (before after rules : List ℕ) {n : ℕ} → HeadsDone before after rules n → min (get_or before 0 0) 256 ≤ n → HeadsFilled before after rules
heads-filled before after rules {n} D l = record { within = D.within; right = right }
  where
    right : words ≤ length before → (goal terms : List ℕ) (ds : List (Clause Plain)) (us : List Term) → Booked (files_of rules goal terms) before ds us → HeadsIn after rules ds
    right r goal terms ds us B k d e =
        let m = member_below ds k d e in
        D.right (omega (arith, r)) B.rules-small k (omega (arith, m, l, B.rules.few, B.rules.counted)) d (B.rules.starts k d e) (B.shallow k d e)
