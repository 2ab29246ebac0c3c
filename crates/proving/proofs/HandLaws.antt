-- Which clause is at hand under a number, where it stands, and its bindings copied on top of the stack (document 01, "When a strip fits": clause k is at hand).
use Prim.Native.Nat.{ℕ, suc, ◌+◌, ◌-◌, ◌≤◌, ◌<◌}
use native.Mathlib.Omega.{arith}
use mathlib.Core.Path.{◌≡◌, refl, sym, ◌∙◌, ap, subst}
use mathlib.Core.Bool.{Bool, true, false}
use mathlib.Core.List.{List}
use mathlib.Core.Option.{none, some}
use lib.Dec.{ltb}
use lib.ListN.{length, get_or, get_elem?, take, drop, length-drop}
use lib.Seq.{get_or-drop, drop-paste}
use borrow.Author.Tests.{ltb-true, ltb-false, lt-ltb, le-ltb}
use Rattle.std.specs.Prelude.{Option, Some, None}
use Rattle.basics.specs.Choice.{choose}
use Rattle.harrop.specs.Formula.{Term, Atom, Goal, Clause}
use Rattle.harrop.specs.Bindings.{Bindings}
use Rattle.harrop.specs.Place.{AtHand, Hand, Plain}
use Rattle.harrop.proofs.ListLaws.{below-member, beyond-none}
use Rattle.sexp.specs.Sexp.{Stands, nesting}
use Rattle.packet.specs.Written.{atom_sexp, clause_sexp}
use Rattle.packet.specs.Barred.{clause_ok}
use Rattle.packet.specs.declared.Word.{Word}
use Rattle.packet.specs.declared.Word.TheVariants as W
use Rattle.reader.specs.WordAt.{WordAt}
use Rattle.reader.proofs.WordLaws.{word-answer}
use Rattle.room.specs.Layout.{levels, rules_word, rule_word, stack}
use Rattle.room.specs.Frame.{bindings_in, copied}
use Rattle.room.specs.Spot.{bindings_at, supposed_in}
use Rattle.room.specs.Files.{Files, file_of}
use Rattle.room.specs.Where.{Live, Means, plus}
use Rattle.room.specs.declared.Source.{Source}
use Rattle.room.specs.declared.Source.TheVariants as S
use Rattle.room.specs.declared.Spot.{Spot}
use Rattle.room.specs.declared.Where.{Where}
use Rattle.room.proofs.FrameLaws.{copied_is, frame-copied, copy-kept, copy-length, word_kept}
use Rattle.narrow.specs.Heads.{HeadIn}
use Rattle.hand.specs.Hand.{rule_spot, clause_in, ClauseAt, HandAt}
use Rattle.hand.proofs.HandLaws.{rule-chosen, hand-is}
use Rattle.proving.specs.Hand.{Opened}
use Rattle.proving.specs.Parts.{HeadSaid}
use Rattle.proving.specs.Stock.{Stock, Keeps}
use Rattle.proving.specs.Proving.{Ready, Taken}
use Rattle.proving.proofs.StockLaws.{stock-low}
use Rattle.proving.proofs.ReadyLaws.{ready-kept}

-- a frame copied on top leaves the words above it
copy-above : (room : List ℕ) (base n top : ℕ) → base + n ≤ top → top + n ≤ length room → (i : ℕ) → top + n ≤ i → get_or (copied room base n top) i 0 ≡ get_or room i 0
copy-above room base n top below inside i l =
    let k = i - (top + n) in
    ap (λ (j : ℕ). get_or (copied room base n top) j 0) {x = i} {y = top + n + k} (omega arith)
    ∙ (sym (get_or-drop (top + n) (copied room base n top) k 0)
    ∙ (ap (λ (s : List ℕ). get_or s k 0) (ap (drop (top + n)) (copied_is room base n top below inside) ∙ drop-paste room top (drop base room) n (omega arith) (omega (arith, length-drop base room)))
    ∙ (get_or-drop (top + n) room k 0 ∙ ap (λ (j : ℕ). get_or room j 0) {x = top + n + k} {y = i} (omega arith))))

-- a clause opened: what the place relies on is kept, and the clause stands with a frame of its own
pub record Opens (f : Files) (room after : List ℕ) (ds : List (Clause Plain)) (us : List Term) (w : Where) (y : Spot) (left : ℕ) (o : List Plain) (c : Hand Plain) (bs : Bindings) (a : Atom) (k : ℕ) : Type 0 where
  pub clause : AtHand Plain
  pub there : get_elem? c k ≡ some clause
  pub kept : Keeps (Stock f ds us w.supposed c) w.supposed w.top room after
  pub above : (i : ℕ) → y.base + y.count ≤ i → get_or after i 0 ≡ get_or room i 0
  pub taken : Taken f after ds us w y left o c bs a clause.clause clause.bindings
  pub rule : k < get_or after rules_word 0 → (y.source ≡ S.Rules) × (get_elem? ds k ≡ some clause.clause)

-- the file that a clause at hand is in
abbrev source_of : Option Spot → Source
source_of None = S.Rules
source_of (Some x) = x.source

module _ {f : Files} {room : List ℕ} {ds : List (Clause Plain)} {us : List Term} {w : Where} {left : ℕ} {o : List Plain} {c : Hand Plain} {bs : Bindings} {a : Atom} (r : Ready f room ds us w (suc left) o c bs (Goal.atom a)) where
  pub opened-none : (k : ℕ) {after : List ℕ} → Opened room after k w.supposed w.top None → (get_elem? c k ≡ none) × (after ≡ room)
  opened-none k (e, n) = (hand-is r.place k None e, n)

  pub opened-clause : (k : ℕ) {after : List ℕ} {y : Spot} → Opened room after k w.supposed w.top (Some y) → Opens f room after ds us w y left o c bs a k
  opened-clause k {after} {y} (x, e, n, q) =
      let (h, t, b) = hand-is r.place k (Some x) e in
      let high : stack ≤ w.top = omega (arith, r.place.framed.above, r.place.tight) in
      let inside : w.top + x.count ≤ length room = omega (arith, r.enough.bindings, r.long, b.shallow) in
      let front = ap (take w.top) n ∙ copy-kept room x.base x.count w.top b.below inside in
      let long = ap length n ∙ copy-length room x.base x.count w.top b.below inside in
      let above : (i : ℕ) → w.top + x.count ≤ i → get_or after i 0 ≡ get_or room i 0 = λ i l. ap (λ (s : List ℕ). get_or s i 0) n ∙ copy-above room x.base x.count w.top b.below inside i l in
      let kept : Keeps (Stock f ds us w.supposed c) w.supposed w.top room after =
      record {
        words = λ i l. word_kept after room w.top i front (under i l high);
        stock = stock-low long (λ i l. above i (omega (arith, r.low, b.shallow)));
      } in
      let ready = ready-kept kept long r in
      record {
        clause = h;
        there = t;
        rule = λ l.
            let first : k < get_or room rules_word 0 = omega (arith, l, ready.place.booked.rules.counted, r.place.booked.rules.counted) in (
              ap (λ (z : Spot). z.source) q ∙ sym (ap source_of (rule-chosen room k w.supposed (get_or room rules_word 0) refl (get_or room (rule_word k) 0) first refl ∙ e)),
              (r.place.hand.rule k h (omega (arith, first, r.place.booked.rules.counted)) t).1,
            );
        kept = kept;
        above = λ i l. above i (omega (arith, ap (λ (z : Spot). z.base) q, ap (λ (z : Spot). z.count) q, l));
        taken =
            subst (λ (z : Spot). Taken f after ds us w z left o c bs a h.clause h.bindings) (sym q)
            (record {
              ready = ready;
              framed =
                  record {
                    stands = b.stands;
                    above = high;
                    below = omega arith;
                    holds = ap (λ (s : List ℕ). bindings_in s w.top x.count) n ∙ (frame-copied room x.base x.count w.top b.below inside ∙ b.holds);
                    shallow = b.shallow;
                  };
              scoped = b.scoped;
              fresh = refl;
            });
      }
    where
      under : (i : ℕ) → Live w.supposed w.top i → stack ≤ w.top → i < w.top
      under i (Live.low l) s = omega (arith, r.enough.supposed, s, l)
      under i (Live.high l h) s = h

-- the head of a rule stands where the room says
pub opened-head : {f : Files} {room after : List ℕ} {ds : List (Clause Plain)} {us : List Term} {w : Where} {y : Spot} {left : ℕ} {o : List Plain} {c : Hand Plain} {bs : Bindings} {a : Atom} {k : ℕ} (z : Opens f room after ds us w y left o c bs a k) → k < get_or after rules_word 0 → HeadSaid f y (get_or after (plus 3968 k) 0) z.clause.clause
opened-head {f} {after = after} {k = k} z l b e =
    let (source, member) = z.rule l in
    let rules = z.taken.ready.place.booked.rules in
    let at = (subst (HeadIn after f.rules k) e (z.taken.ready.stock.heads k z.clause.clause member)).1 in
    subst (λ (s : Source). Stands (file_of f s) (get_or after (plus 3968 k) 0) (atom_sexp b)) (sym source)
    (subst (λ (i : ℕ). Stands f.rules (get_or after i 0) (atom_sexp b)) {x = 3968 + k} {y = plus 3968 k} (omega (arith, l, rules.counted, rules.few)) at)

-- the offset of the word that says what rule k is, as the code makes it
pub fact-at : (room : List ℕ) (k : ℕ) {i n at : ℕ} → i ≡ plus 1 k → n ≡ get_or room i 0 → at ≡ plus n 1 → at ≡ plus (get_or room (plus 1 k) 0) 1
fact-at room k p q r = r ∙ ap (λ (x : ℕ). plus x 1) (q ∙ ap (λ (x : ℕ). get_or room x 0) p)

-- a word there is the atom's, or none there is
pub fact-word : {s : List ℕ} {at there : ℕ} {w : Word} → at ≡ there → WordAt s at w → w ≡ W.Atom → WordAt s there W.Atom
fact-word {s} {at} {there} {w} e h q = subst (λ (x : Word). WordAt s there x) q (subst (λ (x : ℕ). WordAt s x w) e h)

pub no-fact-word : {s : List ℕ} {at there : ℕ} {w : Word} → at ≡ there → WordAt s at w → (w ≡ W.Atom → ⊥) → WordAt s there W.Atom → ⊥
no-fact-word {s} {at} {there} {w} e h n g = n (word-answer s there w W.Atom (subst (λ (x : ℕ). WordAt s x w) e h) g)
