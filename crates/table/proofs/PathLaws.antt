-- Laws of words copied one after the other (specs/Slots): where so many are copied, and one more.
use Prim.Native.Nat.{ℕ, ◌+◌, ◌-◌, ◌≤◌, ◌<◌}
use mathlib.Core.Path.{◌≡◌, refl, ◌∙◌, ap, subst}
use mathlib.Core.Bool.{Bool, true, false}
use mathlib.Core.List.{List}
use native.Mathlib.Omega.{arith}
use lib.Dec.{eqb}
use lib.ListN.{length, get_or, set, length-set}
use lib.Seq.{get_or-set_same, get_or-set_other}
use borrow.Author.Tests.{eqb-true, eqb-false}
use Rattle.table.specs.Slots.{Carried}

pub carried_none : (room : List ℕ) (from to : ℕ) → Carried room room from 0 to
carried_none room from to = record { long = refl; others = λ i z. refl; there = λ l z k m. absurd (omega arith) }

pub carried-next : {before room after : List ℕ} {w : ℕ} (from k to : ℕ) → Carried before room from k to → w ≡ get_or room (from + k) 0 → after ≡ set room (to + k) w → Carried before after from (k + 1) to
carried-next {before} {room} {after} {w} from k to C e q =
    record {
      long = ap length q ∙ (length-set room (to + k) w ∙ C.long);
      others = λ i z. other i (λ h. z (omega arith) (omega arith)) ∙ C.others i (λ a b. z a (omega arith));
      there = λ l z j m. go l z j m (eqb j k) refl;
    }
  where
    other : (i : ℕ) → (i ≡ to + k → ⊥) → get_or after i 0 ≡ get_or room i 0
    other i n = ap (λ (r : List ℕ). get_or r i 0) q ∙ get_or-set_other room (to + k) i w 0 n

    go : to + (k + 1) ≤ length before → ((i j : ℕ) → i < k + 1 → j < k + 1 → from + i ≡ to + j → ⊥) → (j : ℕ) → j < k + 1 → (b : Bool) → eqb j k ≡ b → get_or after (to + j) 0 ≡ get_or before (from + j) 0
    go l z j m true h =
        let same = eqb-true j k h in
        ap (λ (i : ℕ). get_or after (to + i) 0) same
        ∙ (ap (λ (r : List ℕ). get_or r (to + k) 0) q
        ∙ (get_or-set_same room (to + k) w 0 (omega (arith, C.long))
        ∙ (e
        ∙ (C.others (from + k) (λ a b. z k (from + k - to) (omega arith) (omega arith) (omega arith)) ∙ ap (λ (i : ℕ). get_or before (from + i) 0) {x = k} {y = j} (omega arith)))))
    go l z j m false h =
        let n = eqb-false j k h in
        other (to + j) (λ y. n (omega arith)) ∙ C.there (omega arith) (λ i i' a b. z i i' (omega arith) (omega arith)) j (omega arith)

pub carried-as : {before after : List ℕ} {from from' n n' to : ℕ} → from ≡ from' → n ≡ n' → Carried before after from n to → Carried before after from' n' to
carried-as {before} {after} {from} {from'} {n} {n'} {to} e q C = subst (λ (m : ℕ). Carried before after from' m to) q (subst (λ (i : ℕ). Carried before after i n to) e C)
