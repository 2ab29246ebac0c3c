-- The table of arguments in the room, rule by rule: nothing else of the room is written, and what is written is what the arguments of the rules' heads are (document 02, Three).
use Prim.Native.Nat.{ℕ, ◌+◌, ◌%◌, ◌≤◌, ◌<◌, min}
use native.Mathlib.Omega.{arith}
use mathlib.Core.Path.{◌≡◌, refl, sym, ◌∙◌, ap, subst}
use mathlib.Core.Bool.{Bool, true, false}
use mathlib.Core.List.{List, []}
use mathlib.Core.Option.{some}
use lib.Dec.{ltb}
use lib.ListN.{length, get_or, set, get_elem?}
use lib.Seq.{get_or-set_same, get_or-set_other}
use borrow.Author.Tests.{ltb-true, ltb-false}
use Rattle.harrop.specs.Formula.{Term, Atom, Clause}
use Rattle.harrop.specs.Bindings.{Bindings}
use Rattle.harrop.specs.Place.{Plain}
use Rattle.harrop.proofs.ListLaws.{member_below}
use Rattle.sexp.specs.Sexp.{Stands}
use Rattle.packet.specs.Written.{atom_sexp}
use Rattle.packet.specs.File.{most_bytes}
use Rattle.room.specs.Layout.{stack}
use Rattle.room.specs.Frame.{bindings_in}
use Rattle.room.specs.Files.{files_of}
use Rattle.room.specs.Where.{Booked, Live, Kept}
use Rattle.room.specs.declared.Source.{Source}
use Rattle.room.specs.declared.Spot.{Spot}
use Rattle.room.proofs.WhereLaws.{booked-kept}
use Rattle.keys.specs.Walk.{kept_word}
use Rattle.keys.specs.Keys.{KeysIn, key_word, candidate_chains}
use Rattle.keys.proofs.ChainLaws.{within_none, within_more}
use Rattle.keys.proofs.FillLaws.{candidates-kept}
use Rattle.unset.specs.Unset.{Small}
use Rattle.arguments.specs.Arguments.{ArgumentsAre, ArgumentsAt}
use Rattle.narrow.specs.Heads.{head_of, in_rules, head_word, HeadIn, HeadsIn}
use Rattle.narrow.specs.Kept.{arguments_word, arguments_end, no_variable, Says, ArgumentsIn, ArgumentsOf, ArgumentsDone, ArgumentsFilled}
use Rattle.narrow.proofs.FillLaws.{head-nests}
use Rattle.narrow.proofs.NoHeadLaws.{no-variables, head_ok}

-- a table with the same words says the same
pub arguments-kept : (r s : List ℕ) (ds : List (Clause Plain)) (us : List Term) → ((k : ℕ) → k < length ds → get_or r (arguments_word k) 0 ≡ get_or s (arguments_word k) 0) → ArgumentsIn s ds us → ArgumentsIn r ds us
arguments-kept r s ds us e A k d m b h = subst (Says us b) (sym (e k (member_below ds k d m))) (A k d m b h)

-- a frame of no variables
pub no-frame : (room : List ℕ) → bindings_in room 0 0 ≡ []
unfolding bindings_in
no-frame room = refl

-- the word of a head
module _ (rules terms room : List ℕ) (key at : ℕ) where
  pub no_arguments : ArgumentsOf rules terms room key at 0
  no_arguments = record { closed = λ n. absurd (n refl); right = λ us b S C K Y n. absurd (n refl) }

  pub arguments-read : {r : ℕ} {x : Spot} → (key % 2 ≡ 0 → ⊥) → x ≡ in_rules at → ArgumentsAt (files_of rules rules terms) room x 0 no_variable r → ArgumentsOf rules terms room key at r
  arguments-read {r} odd j A = record {
    closed = λ _. odd;
    right = λ us b S C K Y. subst (λ (bs : Bindings). ArgumentsAre us 0 bs no_variable b r) (no-frame room) (subst (λ (x : Spot). ArgumentsAt (files_of rules rules terms) room x 0 no_variable r) j A us b S C K Y);
  }

-- the files that are read for it
rules-small : (rules goal terms : List ℕ) → length rules ≤ most_bytes → length terms ≤ most_bytes → Small (files_of rules rules terms)
rules-small rules goal terms l m Source.Rules = l
rules-small rules goal terms l m Source.Goal = l
rules-small rules goal terms l m Source.Terms = m

-- the words of rules
pub arguments-none : (before rules terms : List ℕ) → ArgumentsDone before before rules terms 0
arguments-none before rules terms = record { within = within_none before (arguments_word 0) arguments_end; right = λ r g ds us B K H k d l. absurd (omega arith) }

module _ (before rules terms : List ℕ) {now after : List ℕ} {i key at w : ℕ} (D : ArgumentsDone before now rules terms i) (l : i < 256) (ek : key ≡ get_or now (3200 + i) 0) (ea : at ≡ get_or now (3968 + i) 0) (A : ArgumentsOf rules terms now key at w) (f : after ≡ set now (4608 + i) w) where
  -- what is read for rule i lies below the table
  below : (j : ℕ) → j < arguments_word 0 → get_or now j 0 ≡ get_or before j 0
  below j k = D.within.below j k

  live : Kept 0 stack before now
  live j (Live.low k) = below j (omega arith)
  live j (Live.high k h) = below j (omega arith)

  newest : (long : arguments_end ≤ length before) (goal : List ℕ) (ds : List (Clause Plain)) (us : List Term) → Booked (files_of rules goal terms) before ds us → KeysIn before ds us → HeadsIn before rules ds
      → (d : Clause Plain) → get_elem? ds i ≡ some d → (b : Atom) → head_of d ≡ some b → Says us b (get_or (set now (4608 + i) w) (arguments_word i) 0)
  newest long goal ds us B K H d m b h =
      let B' : Booked (files_of rules goal terms) now ds us = booked-kept {s = 0} {t = stack} live B in
      let (p, st) = subst (HeadIn before rules i) h (H i d m) in
      let same = get_or-set_same now (4608 + i) w 0 (omega (arith, D.within.long, long, l)) in
      subst (Says us b) (sym same) λ n.
      let closed = no-variables d b h (λ q. A.closed n (ap (λ (z : ℕ). z % 2) (ek ∙ below (key_word i) (omega (arith, l)) ∙ K.rules i d m) ∙ q)) in
      A.right us b (rules-small rules goal terms B.rules-small B.terms-small) B'.candidates
      (candidates-kept (λ j z. below (kept_word j) (omega (arith, z, B.candidates.few))) (λ j z. D.within.above (candidate_chains + j) (omega arith)) (λ c z. D.within.above (candidate_chains + 256 + c) (omega arith)) K.candidates)
      (record {
        stands = subst (λ (z : ℕ). Stands rules z (atom_sexp b)) (sym (ea ∙ below (head_word i) (omega (arith, l)))) st;
        shallow = omega (arith, head-nests d b h, B.shallow i d m);
        few = omega arith;
        ok = head_ok b closed d 0 h (B.scoped i d m);
      })
      n

  pub arguments-next : ArgumentsDone before after rules terms (i + 1)
  arguments-next = subst (λ (r : List ℕ). ArgumentsDone before r rules terms (i + 1)) (sym f) (record {
    within = within_more before now (arguments_word 0) arguments_end (4608 + i) w D.within (omega arith) (omega (arith, l));
    right = right;
  })
    where
      right : arguments_end ≤ length before → (goal : List ℕ) (ds : List (Clause Plain)) (us : List Term) → Booked (files_of rules goal terms) before ds us → KeysIn before ds us → HeadsIn before rules ds
          → (k : ℕ) (d : Clause Plain) → k < i + 1 → get_elem? ds k ≡ some d → (b : Atom) → head_of d ≡ some b → Says us b (get_or (set now (4608 + i) w) (arguments_word k) 0)
      right long goal ds us B K H k d m e b h = by (ltb k i) refl
        where
          by : (t : Bool) → ltb k i ≡ t → Says us b (get_or (set now (4608 + i) w) (arguments_word k) 0)
          by true t =
              let v = ltb-true k i t in
              subst (Says us b) (sym (get_or-set_other now (4608 + i) (4608 + k) w 0 (omega arith))) (D.right long goal ds us B K H k d v e b h)
          by false t =
              let v = ltb-false k i t in
              let same : i ≡ k = omega arith in
              subst (λ (z : ℕ). Says us b (get_or (set now (4608 + i) w) (arguments_word z) 0)) same
              (newest long goal ds us B K H d (subst (λ (z : ℕ). get_elem? ds z ≡ some d) (sym same) e) b h)

-- the table is right once all rules are in it
pub arguments-filled : (before after rules terms : List ℕ) {n : ℕ} → ArgumentsDone before after rules terms n → min (get_or before 0 0) 256 ≤ n → ArgumentsFilled before after rules terms
arguments-filled before after rules terms D l = record {
  within = D.within;
  right = λ r goal ds us B K H k d e b h.
      let m = member_below ds k d e in
      D.right (omega (arith, r)) goal ds us B K H k d (omega (arith, m, l, B.rules.few, B.rules.counted)) e b h;
}
