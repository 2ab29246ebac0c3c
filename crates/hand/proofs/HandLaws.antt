-- Which clause is at hand under a number, and where it stands (document 01, "When a strip fits": clause k is at hand).
use Prim.Native.Nat.{ℕ, ◌+◌, ◌-◌, ◌≤◌, ◌<◌}
use native.Mathlib.Omega.{arith}
use mathlib.Core.Path.{◌≡◌, refl, sym, ap, ◌∙◌, subst}
use mathlib.Core.Bool.{Bool, true, false}
use mathlib.Core.List.{List}
use lib.Dec.{ltb}
use lib.ListN.{length, get_or}
use borrow.Author.Tests.{ltb-true, ltb-false, lt-ltb, le-ltb}
use Rattle.std.specs.Prelude.{Option, Some, None}
use Rattle.basics.specs.Choice.{choose}
use Rattle.harrop.specs.Formula.{Term, Goal, Clause}
use Rattle.harrop.specs.Bindings.{Bindings}
use Rattle.harrop.specs.Place.{Hand, Plain}
use Rattle.harrop.proofs.ListLaws.{below-member, beyond-none}
use Rattle.packet.specs.Barred.{clause_ok}
use Rattle.room.specs.Layout.{rules_word, rule_word}
use Rattle.room.specs.Frame.{bindings_in}
use Rattle.room.specs.Spot.{supposed_in}
use Rattle.room.specs.Files.{Files}
use Rattle.room.specs.Where.{Means}
use Rattle.room.specs.declared.Source.TheVariants as S
use Rattle.room.specs.declared.Spot.{Spot}
use Rattle.room.specs.declared.Where.{Where}
use Rattle.hand.specs.Hand.{rule_spot, clause_in, HandAt}

-- the code's three answers
module _ (room : List ℕ) (k m a : ℕ) (e : a ≡ get_or room rules_word 0) where
  pub rule-chosen : (b : ℕ) → k < a → b ≡ get_or room (rule_word k) 0 → Some (record { source = S.Rules; at = b; base = 0; count = 0 }) ≡ clause_in room k m
  unfolding clause_in
  rule-chosen b l f = rw (lt-ltb k (get_or room rules_word 0) (omega (arith, e))) (ap (λ (i : ℕ). Some (record { source = S.Rules; at = i; base = 0; count = 0 })) f)

  pub supposed-chosen : (y : Spot) → a ≤ k → k - a < m → y ≡ supposed_in room (k - a) → Some y ≡ clause_in room k m
  unfolding clause_in
  supposed-chosen y l n f =
      rw (le-ltb k (get_or room rules_word 0) (omega (arith, e)), lt-ltb (k - get_or room rules_word 0) m (omega (arith, e)))
      (ap Some (f ∙ ap (λ (i : ℕ). supposed_in room (k - i)) e))

  pub none-chosen : a ≤ k → m ≤ k - a → None ≡ clause_in room k m
  unfolding clause_in
  none-chosen l n = rw (le-ltb k (get_or room rules_word 0) (omega (arith, e)), le-ltb (k - get_or room rules_word 0) m (omega (arith, e))) refl

-- at a place that stands in the room
module _ {f : Files} {room : List ℕ} {ds : List (Clause Plain)} {us : List Term} {w : Where} {o : List Plain} {c : Hand Plain} {bs : Bindings} {g : Goal Plain} (m : Means f room ds us w o c bs g) where
  rule-at : (k : ℕ) → k < get_or room rules_word 0 → HandAt f room w.top c k (Some (rule_spot room k))
  unfolding bindings_in
  rule-at k l =
      let n = m.booked.rules.counted in
      let (h, q) = below-member c k (omega (arith, m.hand.number)) in
      let (b, d) = m.hand.rule k h (omega arith) q in (
        h,
        q,
        record {
          stands = m.booked.rules.starts k h.clause d;
          below = omega arith;
          holds = sym b;
          shallow = omega (arith, m.booked.shallow k h.clause d);
          scoped = subst (λ (y : Bindings). clause_ok (length y) h.clause ≡ true) (sym b) (m.booked.scoped k h.clause d);
        },
      )

  supposed-at : (j : ℕ) → j < w.supposed → HandAt f room w.top c (length ds + j) (Some (supposed_in room j))
  supposed-at j l =
      let (h, q) = below-member c (length ds + j) (omega (arith, m.hand.number)) in
      let x = m.hand.suppose j h q in (
        h,
        q,
        record {
          stands = x.stands;
          below = x.below;
          holds = x.holds;
          shallow = x.shallow;
          scoped = m.hand.scoped j h q;
        },
      )

  hand_at : (k : ℕ) → HandAt f room w.top c k (clause_in room k w.supposed)
  unfolding clause_in
  hand_at k = go (ltb k (get_or room rules_word 0)) refl
    where
      counted : get_or room rules_word 0 ≡ length ds
      counted = m.booked.rules.counted

      later : (b : Bool) → ltb (k - get_or room rules_word 0) w.supposed ≡ b → get_or room rules_word 0 ≤ k → HandAt f room w.top c k (choose b (Some (supposed_in room (k - get_or room rules_word 0))) None)
      later true t l =
          subst (λ (i : ℕ). HandAt f room w.top c i (Some (supposed_in room (k - get_or room rules_word 0))))
          (omega (arith, counted))
          (supposed-at (k - get_or room rules_word 0) (ltb-true (k - get_or room rules_word 0) w.supposed t))
      later false t l = beyond-none c k (omega (arith, m.hand.number, counted, ltb-false (k - get_or room rules_word 0) w.supposed t))

      go : (b : Bool) → ltb k (get_or room rules_word 0) ≡ b → HandAt f room w.top c k (choose b (Some (rule_spot room k)) (choose (ltb (k - get_or room rules_word 0) w.supposed) (Some (supposed_in room (k - get_or room rules_word 0))) None))
      go true t = rule-at k (ltb-true k (get_or room rules_word 0) t)
      go false t = later (ltb (k - get_or room rules_word 0) w.supposed) refl (ltb-false k (get_or room rules_word 0) t)

  pub hand-is : (k : ℕ) (r : Option Spot) → clause_in room k w.supposed ≡ r → HandAt f room w.top c k r
  hand-is k r e = subst (λ (x : Option Spot). HandAt f room w.top c k x) e (hand_at k)
