-- Laws of entries: an atom entered in a slot, and what is known of it noted there, leave a right table right, and nothing below the table is written.
use Prim.Native.Nat.{ℕ, suc, ◌+◌, ◌-◌, ◌*◌, ◌%◌, ◌≤◌, ◌<◌, min}
use mathlib.Core.Path.{◌≡◌, refl, sym, ◌∙◌, ap, ap₂, subst}
use mathlib.Core.Bool.{Bool, true, false}
use mathlib.Core.List.{List, [], ◌∷◌}
use native.Mathlib.Omega.{arith}
use lib.Dec.{ltb}
use borrow.Author.Tests.{ltb-true, ltb-false}
use lib.ListN.{length, get_or, set, drop, length-set, length-drop}
use lib.Seq.{sets, paste, drop-paste, get_or-drop, get_or-set_same, get_or-set_other, length-sets}
use Rattle.basics.specs.Choice.{choose}
use Rattle.harrop.specs.Formula.{Term, Atom}
use Rattle.harrop.specs.Bindings.{Bindings, replaced_atom}
use Rattle.room.specs.Frame.{held, bindings_in, copied}
use Rattle.room.specs.Spot.{source_number, source_of, bindings_at}
use Rattle.room.specs.Table.{CandidatesIn}
use Rattle.equal.specs.Term.{AtomAt}
use Rattle.room.specs.Where.{plus}
use Rattle.room.specs.Files.{Files}
use Rattle.room.specs.declared.Spot.{Spot}
use Rattle.room.specs.declared.Where.{Where}
use Rattle.room.proofs.FrameLaws.{frames-alike, word_kept, copied_is, copy-kept, copy-length, frame-copied}
use Rattle.room.proofs.FileLaws.{source-again, spot-alike}
use Rattle.room.proofs.MoveLaws.{sets-before, sets-after, sets-at}
use Rattle.table.specs.Slots.{table_word, Slot, slot_spot, count_of, mark_of, parameters_of, failed_at, proved_at, choice_at, numbers_of, numbers_word, words_in, entry_words, entered, Carried, Proved, Notes}
use Rattle.table.specs.Good.{Truth, Choice, Right, Good}
use Rattle.table.specs.Recall.{This, Fitting, TableOnly, Keeps}
use Rattle.table.proofs.GoodLaws.{words-alike, choice-same, right-heights, good-changed, this-slot, this-true, choice-this}

-- eight words stored one after the other
pub eight-stored : (r r₀ r₁ r₂ r₃ r₄ r₅ r₆ r₇ : List ℕ) (i a b c d e f g h : ℕ)
    → r₀ ≡ set r (i + 0) a → r₁ ≡ set r₀ (i + 1) b → r₂ ≡ set r₁ (i + 2) c → r₃ ≡ set r₂ (i + 3) d → r₄ ≡ set r₃ (i + 4) e → r₅ ≡ set r₄ (i + 5) f → r₆ ≡ set r₅ (i + 6) g → r₇ ≡ set r₆ (i + 7) h
    → r₇ ≡ sets r i (a ∷ b ∷ c ∷ d ∷ e ∷ f ∷ g ∷ h ∷ [])
eight-stored r r₀ r₁ r₂ r₃ r₄ r₅ r₆ r₇ i a b c d e f g h e₀ e₁ e₂ e₃ e₄ e₅ e₆ e₇ =
    let q₀ : r₀ ≡ set r i a = e₀ ∙ ap (λ (n : ℕ). set r n a) {x = i + 0} {y = i} (omega arith) in
    let q₁ : r₁ ≡ set (set r i a) (suc i) b = e₁ ∙ ap₂ (λ (l : List ℕ) (n : ℕ). set l n b) q₀ (next 1 (suc i) (omega arith)) in
    let q₂ : r₂ ≡ set (set (set r i a) (suc i) b) (suc (suc i)) c = e₂ ∙ ap₂ (λ (l : List ℕ) (n : ℕ). set l n c) q₁ (next 2 (suc (suc i)) (omega arith)) in
    let q₃ : r₃ ≡ set (set (set (set r i a) (suc i) b) (suc (suc i)) c) (suc (suc (suc i))) d = e₃ ∙ ap₂ (λ (l : List ℕ) (n : ℕ). set l n d) q₂ (next 3 (suc (suc (suc i))) (omega arith)) in
    let q₄ : r₄ ≡ set (set (set (set (set r i a) (suc i) b) (suc (suc i)) c) (suc (suc (suc i))) d) (suc (suc (suc (suc i)))) e = e₄ ∙ ap₂ (λ (l : List ℕ) (n : ℕ). set l n e) q₃ (next 4 (suc (suc (suc (suc i)))) (omega arith)) in
    let q₅ : r₅ ≡ set (set (set (set (set (set r i a) (suc i) b) (suc (suc i)) c) (suc (suc (suc i))) d) (suc (suc (suc (suc i)))) e) (suc (suc (suc (suc (suc i))))) f = e₅ ∙ ap₂ (λ (l : List ℕ) (n : ℕ). set l n f) q₄ (next 5 (suc (suc (suc (suc (suc i))))) (omega arith)) in
    let q₆ : r₆ ≡ set (set (set (set (set (set (set r i a) (suc i) b) (suc (suc i)) c) (suc (suc (suc i))) d) (suc (suc (suc (suc i)))) e) (suc (suc (suc (suc (suc i))))) f) (suc (suc (suc (suc (suc (suc i)))))) g = e₆ ∙ ap₂ (λ (l : List ℕ) (n : ℕ). set l n g) q₅ (next 6 (suc (suc (suc (suc (suc (suc i)))))) (omega arith)) in
    e₇ ∙ ap₂ (λ (l : List ℕ) (n : ℕ). set l n h) q₆ (next 7 (suc (suc (suc (suc (suc (suc (suc i))))))) (omega arith))
  where
    next : (k n : ℕ) → i + k ≡ n → i + k ≡ n
    next k n e = e

-- an atom entered by the code's stores
pub entered-is : (room r : List ℕ) (x : Spot) (supposed parameters at top : ℕ) → r ≡ sets room at (entry_words x supposed parameters) → top ≡ at + 8 → copied r x.base x.count top ≡ entered room x supposed parameters at
unfolding entered
entered-is room r x supposed parameters at top e t = ap₂ (λ (l : List ℕ) (i : ℕ). copied l x.base x.count i) e t

-- a height noted by the code's stores, with a choice and the numbers of its path
pub proved-is : (room r₁ r₂ : List ℕ) (at height choice top n to : ℕ) {after : List ℕ} → at + 16 ≤ length room → r₁ ≡ set room (at + 6) (held height) → r₂ ≡ set r₁ (at + 7) (held choice) → n ≡ numbers_of r₂ at → (at + 16 ≤ length r₂ → to ≡ numbers_word r₂ at) → Carried r₂ after top n to → Proved room after at height choice top
proved-is room r₁ r₂ at height choice top n to {after} l e₁ e₂ many first K =
    record {
      long = K.long ∙ long;
      proved = K.others (at + 6) (λ a b. omega (arith, many, to_is)) ∙ (other₂ (at + 6) (λ z. omega arith) ∙ (ap (λ (r : List ℕ). get_or r (at + 6) 0) e₁ ∙ get_or-set_same room (at + 6) (held height) 0 (omega arith)));
      clause = K.others (at + 7) (λ a b. omega (arith, many, to_is)) ∙ (ap (λ (r : List ℕ). get_or r (at + 7) 0) e₂ ∙ get_or-set_same r₁ (at + 7) (held choice) 0 (omega (arith, long₁)));
      others = λ i p q z. K.others i (λ a b. z (omega (arith, to_is, count)) (omega (arith, many, to_is, count))) ∙ both i p q;
      numbers = λ b k m.
          ap (λ (j : ℕ). get_or after (j + k) 0) {x = numbers_word room at} {y = to} (omega (arith, to_is, count))
          ∙ (K.there (omega (arith, many, to_is, long)) (λ i j a c z. omega (arith, many, to_is)) k (omega (arith, many, count)) ∙ both (top + k) (λ z. omega arith) (λ z. omega arith));
    }
  where
    long₁ : length r₁ ≡ length room
    long₁ = ap length e₁ ∙ length-set room (at + 6) (held height)

    long : length r₂ ≡ length room
    long = ap length e₂ ∙ (length-set r₁ (at + 7) (held choice) ∙ long₁)

    other₂ : (i : ℕ) → (i ≡ at + 7 → ⊥) → get_or r₂ i 0 ≡ get_or r₁ i 0
    other₂ i q = ap (λ (r : List ℕ). get_or r i 0) e₂ ∙ get_or-set_other r₁ (at + 7) i (held choice) 0 q

    both : (i : ℕ) → (i ≡ at + 6 → ⊥) → (i ≡ at + 7 → ⊥) → get_or r₂ i 0 ≡ get_or room i 0
    both i p q = other₂ i q ∙ (ap (λ (r : List ℕ). get_or r i 0) e₁ ∙ get_or-set_other room (at + 6) i (held height) 0 p)

    count : count_of r₂ at ≡ count_of room at
    count = both (at + 2) (λ z. omega arith) (λ z. omega arith)

    to_is : to ≡ numbers_word r₂ at
    to_is = first (omega (arith, long))

module _ {room after : List ℕ} {at height choice top : ℕ} where
  -- nothing else is written
  notes-other : (found : Bool) → Notes room after at height found choice top → (i : ℕ) → (at + 5 ≤ i → i < at + 16 → ⊥) → get_or after i 0 ≡ get_or room i 0
  notes-other found (Notes.proved y N) i z = N.others i (λ e. z (omega arith) (omega arith)) (λ e. z (omega arith) (omega arith)) (λ a b. z (omega arith) b)
  notes-other found (Notes.failed n N) i z = ap (λ (r : List ℕ). get_or r i 0) N ∙ get_or-set_other room (at + 5) i (held height) 0 (λ e. z (omega arith) (omega arith))

  notes-length : (found : Bool) → Notes room after at height found choice top → length after ≡ length room
  notes-length found (Notes.proved y N) = N.long
  notes-length found (Notes.failed n N) = ap length N ∙ length-set room (at + 5) (held height)

  notes-only : (found : Bool) → table_word ≤ at → Notes room after at height found choice top → TableOnly room after
  notes-only found l N = record { long = notes-length found N; below = λ i b. notes-other found N i (λ e d. omega arith) }

  -- an entry stays right when what is true is noted of it
  right-noted : {f : Files} {us : List Term} {T : Truth} {C : Choice} {s : ℕ} (found : Bool) (R : Right f us T C s room at) → Notes room after at height found choice top → at + 16 ≤ length room → height ≤ 4294967295 → choice ≤ 4294967295 → top + 8 ≤ at
      → T s (parameters_of room at) height (replaced_atom us (bindings_at room (slot_spot room at)) R.atom) ≡ found
      → (found ≡ true → 0 < choice → C s (parameters_of room at) height (replaced_atom us (bindings_at room (slot_spot room at)) R.atom) (choice - 1) (words_in room top (numbers_of room at)))
      → Right f us T C s after at
  right-noted {us = us} {T = T} {C = C} {s = s} found R (Notes.proved y N) l small small' low q by =
      let x = replaced_atom us (bindings_at room (slot_spot room at)) R.atom in
      let p = parameters_of room at in
      let new : proved_at after at ≡ height = N.proved ∙ omega arith in
      let one : choice_at after at ≡ choice = N.clause ∙ omega arith in
      let old : failed_at after at ≡ failed_at room at = N.others (at + 5) (λ e. omega arith) (λ e. omega arith) (λ a b. omega arith) in
      right-heights R (λ k b n. N.others (at + k) (λ e. n (omega arith) (omega arith)) (λ e. n (omega arith) (omega arith)) (λ a c. omega (arith, R.few)))
      (λ h. ap (λ (y : ℕ). T s p y x) old ∙ R.failed (subst (λ (y : ℕ). 0 < y) old h))
      (λ h. ap (λ (y : ℕ). T s p y x) new ∙ (q ∙ y))
      (λ h. choice-same C s p x (sym new) (ap (λ (k : ℕ). k - 1) (sym one)) (sym (words-alike room after top (numbers_word room at) (numbers_of room at) (N.numbers low))) (by y (omega (arith, one))))
  right-noted {us = us} {T = T} {C = C} {s = s} found R (Notes.failed y N) l small small' low q by =
      let x = replaced_atom us (bindings_at room (slot_spot room at)) R.atom in
      let p = parameters_of room at in
      let other : (i : ℕ) → (i ≡ at + 5 → ⊥) → get_or after i 0 ≡ get_or room i 0 = λ i n. ap (λ (r : List ℕ). get_or r i 0) N ∙ get_or-set_other room (at + 5) i (held height) 0 n in
      let new : failed_at after at ≡ height = ap (λ (r : List ℕ). get_or r (at + 5) 0) N ∙ (get_or-set_same room (at + 5) (held height) 0 (omega arith) ∙ omega arith) in
      let old : proved_at after at ≡ proved_at room at = other (at + 6) (λ e. omega arith) in
      let one : choice_at after at ≡ choice_at room at = other (at + 7) (λ e. omega arith) in
      right-heights R (λ k b n. other (at + k) (λ e. n (omega arith) (omega arith)))
      (λ h. ap (λ (y : ℕ). T s p y x) new ∙ (q ∙ y))
      (λ h. ap (λ (y : ℕ). T s p y x) old ∙ R.proved (subst (λ (y : ℕ). 0 < y) old h))
      (λ h. choice-same C s p x (sym old) (ap (λ (k : ℕ). k - 1) (sym one)) (sym (words-alike room after (numbers_word room at) (numbers_word room at) (numbers_of room at) (λ k m. other (numbers_word room at + k) (λ e. omega arith)))) (R.chosen (subst (λ (y : ℕ). 0 < y) one h)))

pub only_none : (room : List ℕ) → TableOnly room room
only_none room = record { long = refl; below = λ i l. refl }

module _ (room : List ℕ) (w : Where) (height at : ℕ) (fit : Fitting w.goal w.supposed w.parameters height) (low : table_word ≤ at) (inside : at + 16 ≤ length room) where
  abbrev plain : List ℕ
  plain = sets room at (entry_words w.goal w.supposed w.parameters)

  abbrev n : ℕ
  n = w.goal.count

  plain-length : length plain ≡ length room
  plain-length = length-sets room at (entry_words w.goal w.supposed w.parameters)

  frame_below : w.goal.base + n ≤ at + 8
  frame_below = omega (arith, fit.below)

  frame-inside : at + 8 + n ≤ length plain
  frame-inside = omega (arith, plain-length, fit.few)

  is-copied : entered room w.goal w.supposed w.parameters at ≡ copied plain w.goal.base n (at + 8)
  unfolding entered
  is-copied = refl

  entered-length : length (entered room w.goal w.supposed w.parameters at) ≡ length room
  entered-length = ap length is-copied ∙ copy-length plain w.goal.base n (at + 8) frame_below frame-inside ∙ plain-length

  -- below the bindings are the words before the copy
  entered-low : (i : ℕ) → i < at + 8 → get_or (entered room w.goal w.supposed w.parameters at) i 0 ≡ get_or plain i 0
  entered-low i l = ap (λ (r : List ℕ). get_or r i 0) is-copied ∙ word_kept (copied plain w.goal.base n (at + 8)) plain (at + 8) i (copy-kept plain w.goal.base n (at + 8) frame_below frame-inside) l

  entered-word : (k : ℕ) → k < 8 → get_or (entered room w.goal w.supposed w.parameters at) (at + k) 0 ≡ get_or (entry_words w.goal w.supposed w.parameters) k 0
  entered-word k l = entered-low (at + k) (omega arith) ∙ sets-at (entry_words w.goal w.supposed w.parameters) room at k (omega arith) (omega arith)

  -- above them those of the room
  entered-high : (i : ℕ) → at + 16 ≤ i → get_or (entered room w.goal w.supposed w.parameters at) i 0 ≡ get_or room i 0
  entered-high i l =
      let b = w.goal.base in
      let few = fit.few in
      let e : i ≡ at + 8 + n + (i - (at + 8 + n)) = omega arith in
      ap (λ (r : List ℕ). get_or r i 0) (is-copied ∙ copied_is plain b n (at + 8) frame_below frame-inside)
      ∙ ap (λ (j : ℕ). get_or (paste plain (at + 8) (drop b plain) n) j 0) e
      ∙ sym (get_or-drop (at + 8 + n) (paste plain (at + 8) (drop b plain) n) (i - (at + 8 + n)) 0)
      ∙ ap (λ (r : List ℕ). get_or r (i - (at + 8 + n)) 0) (drop-paste plain (at + 8) (drop b plain) n (omega (arith, frame-inside)) (omega (arith, length-drop b plain, frame-inside, frame_below)))
      ∙ get_or-drop (at + 8 + n) plain (i - (at + 8 + n)) 0
      ∙ ap (λ (j : ℕ). get_or plain j 0) (sym e)
      ∙ sets-after (entry_words w.goal w.supposed w.parameters) room at i (omega arith)

  entered_below : (i : ℕ) → i < at → get_or (entered room w.goal w.supposed w.parameters at) i 0 ≡ get_or room i 0
  entered_below i l = entered-low i (omega arith) ∙ sets-before (entry_words w.goal w.supposed w.parameters) room at i l

  entered_frame : bindings_in (entered room w.goal w.supposed w.parameters at) (at + 8) n ≡ bindings_at room w.goal
  entered_frame =
      ap (λ (r : List ℕ). bindings_in r (at + 8) n) is-copied
      ∙ frame-copied plain w.goal.base n (at + 8) frame_below frame-inside
      ∙ frames-alike plain room w.goal.base w.goal.base n (λ k l. sets-before (entry_words w.goal w.supposed w.parameters) room at (w.goal.base + k) (omega (arith, fit.below)))

  -- the slot's spot is the atom's, but for its frame
  abbrev there : Spot
  there = record { source = w.goal.source; at = w.goal.at; base = at + 8; count = n }

  entered-count : count_of (entered room w.goal w.supposed w.parameters at) at ≡ n
  entered-count = entered-word 2 (omega arith) ∙ omega (arith, fit.few)

  entered-spot : slot_spot (entered room w.goal w.supposed w.parameters at) at ≡ there
  entered-spot = spot-alike (ap source_of (entered-word 0 (omega arith)) ∙ source-again w.goal.source) (entered-word 1 (omega arith) ∙ omega (arith, fit.offset)) refl entered-count

  entered-bindings : bindings_at (entered room w.goal w.supposed w.parameters at) (slot_spot (entered room w.goal w.supposed w.parameters at) at) ≡ bindings_at room w.goal
  entered-bindings = ap (bindings_in (entered room w.goal w.supposed w.parameters at) (at + 8)) entered-count ∙ entered_frame

  entered-mark : mark_of (entered room w.goal w.supposed w.parameters at) at ≡ w.supposed + 1
  entered-mark = entered-word 3 (omega arith) ∙ omega (arith, fit.clauses)

  entered-parameters : parameters_of (entered room w.goal w.supposed w.parameters at) at ≡ w.parameters
  entered-parameters = entered-word 4 (omega arith) ∙ omega (arith, fit.opened)

  -- an atom entered, of which nothing is known
  entered-right : (f : Files) (us : List Term) (T : Truth) (C : Choice) (a : Atom) → AtomAt f w.goal a → Right f us T C w.supposed (entered room w.goal w.supposed w.parameters at) at
  entered-right f us T C a A = record {
    few = omega (arith, entered-count, fit.few);
    atom = a;
    here = subst (λ (y : Spot). AtomAt f y a) (sym entered-spot) (record { stands = A.stands; shallow = A.shallow; few = A.few; ok = A.ok });
    failed = λ h. let z = entered-word 5 (omega arith) in absurd (omega arith);
    proved = λ h. let z = entered-word 6 (omega arith) in absurd (omega arith);
    chosen = λ h. let z = entered-word 7 (omega arith) in absurd (omega arith);
  }

  entered-apart : (i : ℕ) → (at ≤ i → i < at + 16 → ⊥) → get_or (entered room w.goal w.supposed w.parameters at) i 0 ≡ get_or room i 0
  entered-apart i z = go (ltb i at) refl
    where
      far : (b : Bool) → ltb i (at + 16) ≡ b → at ≤ i → get_or (entered room w.goal w.supposed w.parameters at) i 0 ≡ get_or room i 0
      far true e l = absurd (z l (ltb-true i (at + 16) e))
      far false e l = entered-high i (ltb-false i (at + 16) e)

      go : (b : Bool) → ltb i at ≡ b → get_or (entered room w.goal w.supposed w.parameters at) i 0 ≡ get_or room i 0
      go true e = entered_below i (ltb-true i at e)
      go false e = let l = ltb-false i at e in far (ltb i (at + 16)) refl l

  new-only : {after : List ℕ} {choice top : ℕ} (found : Bool) → Notes (entered room w.goal w.supposed w.parameters at) after at height found choice top → TableOnly room after
  new-only found N =
      let o = notes-only found low N in
      record { long = o.long ∙ entered-length; below = λ i l. o.below i l ∙ entered_below i (omega arith) }

  -- a new entry, with what is true of it
  new-good : {f : Files} {us : List Term} {T : Truth} {C : Choice} {m : ℕ} {after : List ℕ} {choice : ℕ} (found : Bool) (a : Atom) → at % 16 ≡ 0 → w.supposed ≤ m → Good f us T C m room → AtomAt f w.goal a
      → Notes (entered room w.goal w.supposed w.parameters at) after at height found choice w.top → choice ≤ 4294967295 → w.top + 8 ≤ table_word
      → T w.supposed w.parameters height (replaced_atom us (bindings_at room w.goal) a) ≡ found
      → (found ≡ true → 0 < choice → (n : ℕ) → C w.supposed w.parameters height (replaced_atom us (bindings_at room w.goal) a) (choice - 1) (words_in room w.top n))
      → Good f us T C m after
  unfolding entered-right
  new-good {f} {us} {T} {C} {m} {after} {choice} found a step few g A N small top q by =
      let R = entered-right f us T C a A in
      let room' = entered room w.goal w.supposed w.parameters at in
      let mark : mark_of after at ≡ w.supposed + 1 = notes-other found N (at + 3) (λ e d. omega arith) ∙ entered-mark in
      let true' = ap (λ (p : ℕ). T w.supposed p height (replaced_atom us (bindings_at room' (slot_spot room' at)) a)) entered-parameters ∙ ap (λ (bs : Bindings). T w.supposed w.parameters height (replaced_atom us bs a)) entered-bindings ∙ q in
      let by' : (n : ℕ) → n ≤ 8 → found ≡ true → 0 < choice → C w.supposed (parameters_of room' at) height (replaced_atom us (bindings_at room' (slot_spot room' at)) a) (choice - 1) (words_in room' w.top n) = λ n b y z.
      subst (λ (p : ℕ). C w.supposed p height (replaced_atom us (bindings_at room' (slot_spot room' at)) a) (choice - 1) (words_in room' w.top n)) (sym entered-parameters)
      (subst (λ (bs : Bindings). C w.supposed w.parameters height (replaced_atom us bs a) (choice - 1) (words_in room' w.top n)) (sym entered-bindings)
      (subst (λ (ns : List ℕ). C w.supposed w.parameters height (replaced_atom us (bindings_at room w.goal) a) (choice - 1) ns) (sym (words-alike room room' w.top w.top n (λ k l. entered_below (w.top + k) (omega arith)))) (by y z n))) in
      let right = right-noted found R N (omega (arith, entered-length)) fit.high small (omega arith) true' (by' (numbers_of room' at) (omega arith)) in
      good-changed at step g (notes-length found N ∙ entered-length) (λ i z. notes-other found N i (λ a b. z (omega arith) b) ∙ entered-apart i z) (λ s h l. subst (λ (k : ℕ). Right f us T C k after at) (omega arith) right)

module _ {f : Files} {before after : List ℕ} {w : Where} {height at choice : ℕ} {found : Bool} where
  pub keeps-only : table_word ≤ at → Keeps f before after w height at found choice → TableOnly before after
  keeps-only l (Keeps.nothing e) = subst (TableOnly before) (sym e) (only_none before)
  keeps-only l (Keeps.again t fit N) = notes-only found l N
  keeps-only l (Keeps.new m i fit N) = new-only before w height at fit m i found N

  -- what is kept, where it is true: the table is right afterwards if it was before
  pub keeps-good : {us : List Term} {T : Truth} {C : Choice} {m : ℕ} (a : Atom) → Keeps f before after w height at found choice → at % 16 ≡ 0 → w.supposed ≤ m → Good f us T C m before → CandidatesIn before f.terms us → AtomAt f w.goal a → choice ≤ 4294967295 → w.top + 8 ≤ table_word
      → T w.supposed w.parameters height (replaced_atom us (bindings_at before w.goal) a) ≡ found
      → (found ≡ true → 0 < choice → (n : ℕ) → C w.supposed w.parameters height (replaced_atom us (bindings_at before w.goal) a) (choice - 1) (words_in before w.top n))
      → Good f us T C m after
  keeps-good {us} {T} {C} {m} a (Keeps.nothing e) step few g us-in A small top q by = subst (Good f us T C m) (sym e) g
  keeps-good {us} {T} {C} {m} a (Keeps.again t fit N) step few g us-in A small top q by =
      let R = g at w.supposed (this-slot t step) t.supposed few in
      let mark : mark_of after at ≡ w.supposed + 1 = notes-other found N (at + 3) (λ e d. omega arith) ∙ t.supposed in
      let right = right-noted found R N t.inside fit.high small (omega (arith, t.first)) (this-true t a R us-in A height ∙ q) (λ y z. choice-this t a R us-in A (by y z (numbers_of before at))) in
      good-changed at step g (notes-length found N) (λ i apart. notes-other found N i (λ b c. apart (omega arith) c))
      (λ s h l. subst (λ (n : ℕ). Right f us T C n after at) (omega arith) right)
  keeps-good {us} {T} {C} {m} a (Keeps.new l i fit N) step few g us-in A small top q by = new-good before w height at fit l i found a step few g A N small top q by
