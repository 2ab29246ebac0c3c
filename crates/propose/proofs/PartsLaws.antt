-- The parts of a search at the root place: the room is set out; crate provable's yes or no says whether there is a first strip; drawn from place 0 on, the first strip has its measures and fills the front of a buffer that has room for it.
use Prim.Native.Nat.{ℕ, ◌+◌, ◌≤◌, ◌<◌}
use native.Mathlib.Omega.{arith}
use mathlib.Core.Path.{◌≡◌, sym, ◌∙◌, subst}
use mathlib.Core.Bool.{Bool}
use mathlib.Core.List.{List, []}
use lib.ListN.{length}
use Rattle.harrop.specs.Place.{listed, at_start}
use Rattle.packet.specs.File.{Books}
use Rattle.packet.specs.Sound.{SoundBooks}
use Rattle.room.specs.Layout.{words, stack}
use Rattle.room.specs.Where.{Live, Kept, Booked}
use Rattle.room.specs.Files.{Files, files_of}
use Rattle.room.specs.Start.{start, Tabled}
use Rattle.room.specs.declared.Where.{Where}
use Rattle.room.proofs.EnoughLaws.{enough-at-start}
use Rattle.room.proofs.WhereLaws.{kept_then, means-kept, booked-kept}
use Rattle.room.proofs.StartLaws.{root-means}
use Rattle.keys.specs.Keys.{KeysIn, KeysFilled}
use Rattle.narrow.specs.Heads.{HeadsIn, HeadsFilled}
use Rattle.narrow.specs.Kept.{ArgumentsFilled}
use Rattle.narrow.proofs.FillLaws.{heads-kept}
use Rattle.table.specs.Recall.{TableOnly, Empty}
use Rattle.table.proofs.GoodLaws.{good-empty}
use Rattle.proving.specs.Stock.{truth, choice, Stock, Keeps}
use Rattle.proving.specs.Proving.{Ready, Proving}
use Rattle.proving.proofs.StockLaws.{kept-below, keys_kept, keys_below, heads-below, arguments-below}
use Rattle.proving.proofs.ProvableLaws.{provable-is}
use Rattle.drawing.specs.Spelled.{written}
use Rattle.drawing.specs.Writing.{Writing}
use Rattle.drawing.specs.declared.Drawn.{Drawn}
use Rattle.proposal.specs.Proposed.{most_height, first_strip, over}
use Rattle.propose.specs.Parts.{SetOut, Setting, Telling, Measuring}
use Rattle.pen.proofs.LaidLaws.{laid-over}

-- what the root place relies on lies below the numbers
below-keys : (i : ℕ) → Live 0 stack i → i < stack
below-keys i (Live.low l) = omega arith
below-keys i (Live.high l h) = h

-- a packet that is read is set out once its tables are filled, the numbers, the heads and their arguments are in theirs, and no slot of the table of atoms holds anything
pub set_out : (f : Files) (room tables keys heads arguments after : List ℕ) → length tables ≡ length room → (words ≤ length room → Tabled tables f.rules f.terms) → KeysFilled tables keys f.rules f.terms → HeadsFilled keys heads f.rules → ArgumentsFilled heads arguments f.rules f.terms → TableOnly arguments after → Empty after
    → Setting f room after
set_out f room tables keys heads arguments after e t k d g o n h gs b s low long =
    let q : Files = files_of f.rules gs f.terms in
    let place = root-means b s (t long) in
    let few = place.booked.rules.few in
    let many = place.booked.candidates.few in
    let numbered : Kept 0 stack tables keys = λ i l. k.within.below i (omega (arith, below-keys i l)) in
    let placed : Kept 0 stack keys heads = λ i l. d.within.below i (omega (arith, below-keys i l)) in
    let argued : Kept 0 stack heads arguments = λ i l. g.within.below i (omega (arith, below-keys i l)) in
    let booked : Booked q keys b.rules b.candidates = (means-kept numbered place).booked in
    let headed : Booked q heads b.rules b.candidates = booked-kept placed booked in
    let last = kept_then {s' = 0} {t' = stack} heads arguments after (omega arith) (omega arith) argued (kept-below (omega arith) (omega arith) o) in
    let kept = kept_then {s' = 0} {t' = stack} tables keys after (omega arith) (omega arith) numbered (kept_then {s' = 0} {t' = stack} keys heads after (omega arith) (omega arith) placed last) in
    let keyed : KeysIn heads b.rules b.candidates = keys_kept few many (λ i l. d.within.below i (omega arith)) (λ i l m. d.within.above i (omega arith)) (λ i l m. d.within.above i (omega arith)) (k.right (omega arith) gs b.rules b.candidates place.booked) in
    let heading : HeadsIn heads f.rules b.rules = d.right (omega (arith, k.within.long)) gs f.terms b.rules b.candidates booked in
    record {
      low = low;
      long = omega (arith, o.long, g.within.long, d.within.long, k.within.long);
      place = means-kept kept place;
      stock =
          record {
            keys = keys_below few many o (keys_kept few many (λ i l. g.within.below i (omega arith)) (λ i l m. g.within.below i (omega arith)) (λ i l m. g.within.above i (omega arith)) keyed);
            heads = heads-below f.rules b.rules few o (heads-kept f.rules arguments heads b.rules (λ j m. (g.within.below (3712 + j) (omega (arith, m, few)), g.within.below (3968 + j) (omega (arith, m, few)))) heading);
            arguments = arguments-below b.rules b.candidates few o (g.right (omega (arith, d.within.long, k.within.long)) gs b.rules b.candidates headed keyed heading);
            good = good-empty q b.candidates (truth b.candidates (length b.rules) (at_start b.rules)) (choice b.candidates (length b.rules) (at_start b.rules)) 0 after n;
          };
    }

-- the same of tables made from the bytes of the rules and of the candidates, wherever these were read from
pub set-out-from : (f : Files) (rs ts : List ℕ) → rs ≡ f.rules → ts ≡ f.terms → (room tables keys heads arguments after : List ℕ) → length tables ≡ length room → (words ≤ length room → Tabled tables rs ts) → KeysFilled tables keys rs ts → HeadsFilled keys heads rs → ArgumentsFilled heads arguments rs ts → TableOnly arguments after → Empty after
    → Setting f room after
set-out-from f rs ts p q room tables keys heads arguments after e t k d g =
    set_out f room tables keys heads arguments after e
    (λ l. subst (λ (y : List ℕ). Tabled tables f.rules y) q (subst (λ (x : List ℕ). Tabled tables x ts) p (t l)))
    (subst (λ (y : List ℕ). KeysFilled tables keys f.rules y) q (subst (λ (x : List ℕ). KeysFilled tables keys x ts) p k))
    (subst (λ (x : List ℕ). HeadsFilled keys heads x) p d)
    (subst (λ (y : List ℕ). ArgumentsFilled heads arguments f.rules y) q (subst (λ (x : List ℕ). ArgumentsFilled heads arguments x ts) p g))

module _ {h : ℕ} {f : Files} {room : List ℕ} {b : Books} (s : SetOut h f room b) where
  ready : Ready f room b.rules b.candidates start h [] (at_start b.rules) [] b.goal
  ready = record { place = s.place; enough = enough-at-start h (omega (arith, s.low)); long = s.long; low = omega (arith, s.low); stock = s.stock }

  stays-set-out : (after : List ℕ) → length after ≡ length room → Keeps (Stock f b.rules b.candidates 0 (at_start b.rules)) 0 stack room after → SetOut h f after b
  stays-set-out after e k = record { low = s.low; long = omega (arith, s.long); place = means-kept k.words s.place; stock = k.stock s.stock }

module _ (h : ℕ) (f : Files) (room after : List ℕ) (w : Where) (e : w ≡ start) where
  -- whether there is one
  pub told : (r : Bool) → length after ≡ length room → Proving f room after w h r → Telling h f room after r
  unfolding first_strip
  told r l p b s =
      let a = subst (λ (x : Where). Proving f room after x h r) e p b.rules b.candidates [] (at_start b.rules) [] b.goal (ready s) in
      record { stays = stays-set-out s after l a.kept; answer = a.answer ∙ sym (provable-is (listed b.candidates) h [] (at_start b.rules) [] b.goal) }

  module _ (z z' : List ℕ) (r : Drawn) (p : Writing f room after z z' w h 0 r) where
    from_start : Writing f room after z z' start h 0 r
    from_start = subst (λ (x : Where). Writing f room after z z' x h 0 r) e p

    -- its measures, and its bytes
    pub measured : length after ≡ length room → Measuring h f room after z z' r
    unfolding first_strip over
    measured l b S s q =
        let a = from_start b.rules b.candidates [] (at_start b.rules) [] b.goal S (ready s) q in
        record {
          stays = stays-set-out s after l a.kept;
          high = a.done.high;
          many = a.done.many;
          long = omega (arith, a.done.puts.ahead);
          bytes = λ n m. a.done.puts.bytes ∙ laid-over (written S) z n m;
        }
