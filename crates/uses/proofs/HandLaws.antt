-- The clause at hand that a `use` asks for (document 01, "When a strip fits"): a rule or a supposed clause, where it stands, and its bindings copied on top of the stack.
use Rattle.std.specs.Prelude.{Some, None, Option}
use Prim.Native.Nat.{ℕ, ◌+◌, ◌≤◌, ◌<◌}
use native.Mathlib.Omega.{arith}
use mathlib.Core.Path.{◌≡◌, refl, sym, ◌∙◌, ap, subst}
use mathlib.Core.Bool.{true}
use mathlib.Core.List.{List}
use mathlib.Core.Option.{none, some}
use lib.ListN.{length, get_elem?, take}
use Rattle.std.proofs.lemmas.Option.{none-some, same_Some}
use Rattle.harrop.specs.Formula.{Term, Goal, Clause}
use Rattle.harrop.specs.Bindings.{Bindings}
use Rattle.harrop.specs.Place.{AtHand, Hand, Plain}
use Rattle.packet.specs.Barred.{clause_ok}
use Rattle.room.specs.Files.{Files}
use Rattle.room.specs.Layout.{levels}
use Rattle.room.specs.Frame.{bindings_in}
use Rattle.room.specs.declared.Spot.{Spot}
use Rattle.room.specs.declared.Where.{Where}
use Rattle.room.proofs.FrameLaws.{frame-length, frame-copied, copy-kept, copy-length}
use Rattle.uses.specs.Walk.{Means}
use Rattle.hand.specs.Hand.{clause_in}
use Rattle.hand.proofs.HandLaws.{hand-is}
use Rattle.uses.specs.Use.{ClauseAt, Opened}

-- no clause opened: there is none, or no room for its bindings
module _ (room : List ℕ) (k m top : ℕ) where
  pub open-lost : {r : Option Spot} → r ≡ clause_in room k m → r ≡ None → Opened room room k m top None
  open-lost e n = (refl, λ x f l. none-some x (sym n ∙ (e ∙ f)))

  pub open-short : length room < top → Opened room room k m top None
  open-short s = (refl, λ x f l. omega arith)

  pub open_full : {r : Option Spot} {y : Spot} → r ≡ clause_in room k m → r ≡ Some y → length room < top + y.count → Opened room room k m top None
  open_full {y = y} e n s = (refl, λ x f l. let z = ap (λ (u : Spot). u.count) (same_Some x y (sym f ∙ (sym e ∙ n))) in omega arith)

-- an answer that is known, and that the new frame is inside the room
pub opened-as : (room after : List ℕ) (k m top : ℕ) (r t : Option Spot) → r ≡ t → Opened room after k m top r → Opened room after k m top t
opened-as room after k m top r t e h = subst (λ (x : Option Spot). Opened room after k m top x) e h

pub opened_inside : (room after : List ℕ) (k m top : ℕ) (y : Spot) → Opened room after k m top (Some y) → y.base + y.count ≤ length room
opened_inside room after k m top y (x, e, l, n, q) = subst (λ (z : Spot). z.base + z.count ≤ length room) (sym q) l

-- clause k in a room after its bindings are copied on top
pub record OpenAt (f : Files) (room after : List ℕ) (w : Where) (c : Hand Plain) (k : ℕ) (y : Spot) : Type 0 where
  pub hand : AtHand Plain
  pub found : get_elem? c k ≡ some hand
  pub clause : ClauseAt f after y (y.base + y.count) hand.clause hand.bindings
  pub fresh : y.base ≡ w.top
  pub kept : take w.top after ≡ take w.top room
  pub long : length after ≡ length room

module _ {f : Files} {room : List ℕ} {ds : List (Clause Plain)} {us : List Term} {w : Where} {o : List Plain} {c : Hand Plain} {bs : Bindings} {g : Goal Plain} (m : Means f room ds us w o c bs g) where
  -- no clause has the number
  pub opened-none : (k : ℕ) (after : List ℕ) → w.top + levels ≤ length room → Opened room after k w.supposed w.top None → get_elem? c k ≡ none
  opened-none k after l n = go (clause_in room k w.supposed) refl
    where
      go : (r : Option Spot) → clause_in room k w.supposed ≡ r → get_elem? c k ≡ none
      go None e = hand-is m k None e
      go (Some x) e = let (h, q, a) = hand-is m k (Some x) e in absurd (n.1 x e (omega (arith, a.shallow, l)))

  -- the clause with its new frame
  pub opened-clause : (k : ℕ) (after : List ℕ) (y : Spot) → Opened room after k w.supposed w.top (Some y) → OpenAt f room after w c k y
  opened-clause k after y (x, e, l, n, q) =
      let (h, t, a) = hand-is m k (Some x) e in
      record {
        hand = h;
        found = t;
        clause =
            subst (λ (z : Spot). ClauseAt f after z (z.base + z.count) h.clause h.bindings) (sym q)
            (record {
              stands = a.stands;
              below = omega arith;
              holds = ap (λ (r : List ℕ). bindings_in r w.top x.count) n ∙ frame-copied room x.base x.count w.top a.below l ∙ a.holds;
              shallow = a.shallow;
              scoped = subst (λ (i : ℕ). clause_ok i h.clause ≡ true) (ap length (sym a.holds) ∙ frame-length room x.base x.count) a.scoped;
            });
        fresh = ap (λ (z : Spot). z.base) q;
        kept = ap (take w.top) n ∙ copy-kept room x.base x.count w.top a.below l;
        long = ap length n ∙ copy-length room x.base x.count w.top a.below l;
      }
