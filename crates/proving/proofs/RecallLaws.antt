-- What the table says of the atom at a place is what `provable` says of it, and what `provable` says may be kept there (document 02, Three).
use Prim.Native.Nat.{ℕ, suc, ◌-◌, ◌%◌, ◌≤◌, ◌<◌}
use native.Mathlib.Omega.{arith}
use mathlib.Core.Path.{◌≡◌, ◌∙◌, sym, ap, subst}
use mathlib.Core.Bool.{Bool, true}
use mathlib.Core.List.{List}
use lib.ListN.{length}
use Rattle.std.specs.Prelude.{Option, Some}
use Rattle.harrop.specs.Formula.{Term, Atom, Goal, Clause}
use Rattle.harrop.specs.Bindings.{Bindings, replaced_atom}
use Rattle.harrop.specs.Place.{Hand, Plain, listed}
use Rattle.room.specs.Spot.{bindings_at}
use Rattle.room.specs.Files.{Files}
use Rattle.room.specs.declared.Where.{Where}
use Rattle.equal.proofs.AtomLaws.{atom-at}
use Rattle.table.specs.Slots.{numbers_of, numbers_word, words_in}
use Rattle.table.specs.Recall.{Says, Recalls, Chose, TableOnly}
use Rattle.table.specs.Recall as table
use Rattle.table.proofs.GoodLaws.{recalls-so, chosen-so}
use Rattle.table.proofs.EntryLaws.{keeps-good}
use Rattle.proving.specs.Provable as provable
use Rattle.proving.specs.Stock.{truth, Chooses, choice, Stock, Keeps}
use Rattle.proving.specs.Proving.{Ready}
use Rattle.proving.proofs.TruthLaws.{truth-here, truth-rises}
use Rattle.proving.proofs.ChoiceLaws.{choice-here, choice-there}
use Rattle.proving.proofs.StockLaws.{kept-below, keys_below, heads-below, arguments-below}

module _ {f : Files} {room : List ℕ} {ds : List (Clause Plain)} {us : List Term} {w : Where} {left : ℕ} {o : List Plain} {c : Hand Plain} {bs : Bindings} {a : Atom} (r : Ready f room ds us w (suc left) o c bs (Goal.atom a)) where
  -- the table speaks of atoms whose variables are replaced
  spoken : (height : ℕ) → height ≡ suc left → truth us (length ds) c w.supposed w.parameters height (replaced_atom us (bindings_at room w.goal) a) ≡ provable.provable (listed us) (suc left) o c bs (Goal.atom a)
  spoken height e =
      ap (λ (y : Bindings). truth us (length ds) c w.supposed w.parameters height (replaced_atom us y a)) r.place.framed.holds
      ∙ (ap (λ (h : ℕ). truth us (length ds) c w.supposed w.parameters h (replaced_atom us bs a)) e
      ∙ sym (truth-here us (length ds) w.supposed w.parameters (suc left) o c bs a r.place.hand.number r.place.openly))

  -- what is recalled is so
  pub recalled-so : (height at : ℕ) (q : Option Bool) → height ≡ suc left → at % 16 ≡ 0 → Recalls f room w height at q → Says (provable.provable (listed us) (suc left) o c bs (Goal.atom a)) q
  recalled-so height at q e z h =
      subst (λ (b : Bool). Says b q) (spoken height e)
      (recalls-so f room w height at a z r.stock.good r.place.booked.candidates (atom-at a r.place.framed r.place.scoped) q (truth-rises us (length ds) c) h)

  -- and so is what is chosen
  chosen-spoken : (height k : ℕ) (ns : List ℕ) → height ≡ suc left → Chooses us left o c (replaced_atom us bs a) k ns → choice us (length ds) c w.supposed w.parameters height (replaced_atom us (bindings_at room w.goal) a) k ns
  chosen-spoken height k ns e C =
      subst (λ (y : Bindings). choice us (length ds) c w.supposed w.parameters height (replaced_atom us y a) k ns) (sym r.place.framed.holds)
      (subst (λ (h : ℕ). choice us (length ds) c w.supposed w.parameters h (replaced_atom us bs a) k ns) (sym e)
      (choice-here us (length ds) w.supposed w.parameters left o c (replaced_atom us bs a) k ns r.place.hand.number r.place.openly C))

  pub chosen-here : (height at k : ℕ) → height ≡ suc left → at % 16 ≡ 0 → Chose f room w height at (Some k) → Chooses us left o c (replaced_atom us bs a) k (words_in room (numbers_word room at) (numbers_of room at))
  chosen-here height at k e z h =
      let ns = words_in room (numbers_word room at) (numbers_of room at) in
      choice-there us (length ds) w.supposed w.parameters left o c (replaced_atom us bs a) k ns r.place.hand.number r.place.openly
      (subst (λ (i : ℕ). choice us (length ds) c w.supposed w.parameters i (replaced_atom us bs a) k ns) e
      (subst (λ (y : Bindings). choice us (length ds) c w.supposed w.parameters height (replaced_atom us y a) k ns) r.place.framed.holds
      (chosen-so f room w height at a z r.stock.good r.place.booked.candidates (atom-at a r.place.framed r.place.scoped) k h)))

  -- what is so may be kept
  pub keeps_entry : {after : List ℕ} (height at number : ℕ) {b : Bool} → height ≡ suc left → at % 16 ≡ 0 → provable.provable (listed us) (suc left) o c bs (Goal.atom a) ≡ b → number ≤ 4294967295
      → (b ≡ true → 0 < number → (n : ℕ) → Chooses us left o c (replaced_atom us bs a) (number - 1) (words_in room w.top n)) → TableOnly room after → table.Keeps f room after w height at b number
      → Keeps (Stock f ds us w.supposed c) w.supposed w.top room after
  keeps_entry height at number e z q small by t h =
      record {
        words = kept-below (omega (arith, r.enough.supposed)) (omega (arith, r.low)) t;
        stock = λ s.
            record {
              keys = keys_below r.place.booked.rules.few r.place.booked.candidates.few t s.keys;
              heads = heads-below f.rules ds r.place.booked.rules.few t s.heads;
              arguments = arguments-below ds us r.place.booked.rules.few t s.arguments;
              good = keeps-good {m = w.supposed} a h z (omega arith) s.good r.place.booked.candidates (atom-at a r.place.framed r.place.scoped) small (omega (arith, r.low)) (spoken height e ∙ q) (λ y l n. chosen-spoken height (number - 1) (words_in room w.top n) e (by y l n));
            };
      }
