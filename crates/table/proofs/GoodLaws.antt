-- Laws of a right table (specs/Good): it speaks of its own words only, holds for fewer supposed clauses too, and stays right where one slot is changed to one that is right.
use Prim.Native.Nat.{ℕ, zero, suc, ◌+◌, ◌-◌, ◌*◌, ◌%◌, ◌≤◌, ◌<◌}
use mathlib.Core.Path.{◌≡◌, refl, sym, ◌∙◌, ap, ap₂, subst}
use mathlib.Core.Bool.{Bool, true, false, false≢true}
use mathlib.Core.List.{List, ◌∷◌}
use native.Mathlib.Omega.{arith}
use lib.Dec.{eqb}
use lib.ListN.{length, get_or}
use borrow.Author.Tests.{eqb-true, eqb-false}
use Rattle.harrop.specs.Formula.{Term, Atom}
use Rattle.harrop.specs.Bindings.{Bindings, replaced_atom, same_atom}
use Rattle.harrop.proofs.SameLaws.{same-atoms-equal}
use Rattle.room.specs.Frame.{bindings_in}
use Rattle.room.specs.Spot.{source_of, bindings_at}
use Rattle.room.specs.Table.{CandidatesIn}
use Rattle.equal.specs.Term.{AtomAt, SameAtoms}
use Rattle.room.specs.Files.{Files}
use Rattle.room.specs.declared.Spot.{Spot}
use Rattle.room.specs.declared.Where.{Where}
use Rattle.room.proofs.FrameLaws.{frames-alike}
use Rattle.room.proofs.FileLaws.{spot-alike}
use Rattle.std.specs.Prelude.{Option, Some, None}
use Rattle.table.specs.Slots.{table_word, Slot, slot_spot, count_of, mark_of, parameters_of, failed_at, proved_at, choice_at, numbers_of, numbers_word, words_in}
use Rattle.table.specs.Good.{Truth, Rises, Choice, Right, Good}
use Rattle.table.specs.Recall.{This, IsThis, Says, Recalls, Chose, Empty}

-- words that are the same
pub words-alike : (room after : List ℕ) (i j n : ℕ) → ((k : ℕ) → k < n → get_or after (j + k) 0 ≡ get_or room (i + k) 0) → words_in after j n ≡ words_in room i n
unfolding words_in
words-alike room after i j zero e = refl
words-alike room after i j (suc n) e =
    ap₂ (λ (x : ℕ) (xs : List ℕ). x ∷ xs)
    (ap (λ (k : ℕ). get_or after k 0) {x = j} {y = j + 0} (omega arith) ∙ (e 0 (omega arith) ∙ ap (λ (k : ℕ). get_or room k 0) {x = i + 0} {y = i} (omega arith)))
    (words-alike room after (i + 1) (j + 1) n (λ k l. ap (λ (m : ℕ). get_or after m 0) {x = j + 1 + k} {y = j + (1 + k)} (omega arith) ∙ (e (1 + k) (omega arith) ∙ ap (λ (m : ℕ). get_or room m 0) {x = i + (1 + k)} {y = i + 1 + k} (omega arith))))

-- the words of a slot up to its last binding are the same, but for what is known of its atom: so are its spot and its bindings
abbrev pub Entry : List ℕ → List ℕ → ℕ → Type 0
Entry room after at = (k : ℕ) → k < 8 + count_of room at → (5 ≤ k → k < 8 → ⊥) → get_or after (at + k) 0 ≡ get_or room (at + k) 0

entry-spot : (room after : List ℕ) (at : ℕ) → Entry room after at → slot_spot after at ≡ slot_spot room at
entry-spot room after at e = spot-alike (ap source_of (e 0 (omega arith) (λ z y. omega arith))) (e 1 (omega arith) (λ z y. omega arith)) refl (e 2 (omega arith) (λ z y. omega arith))

entry-bindings : (room after : List ℕ) (at : ℕ) → Entry room after at → bindings_at after (slot_spot after at) ≡ bindings_at room (slot_spot room at)
entry-bindings room after at e =
    ap (bindings_in after (at + 8)) (e 2 (omega arith) (λ z y. omega arith))
    ∙ frames-alike after room (at + 8) (at + 8) (count_of room at) word
  where
    word : (k : ℕ) → k < count_of room at → get_or after (at + 8 + k) 0 ≡ get_or room (at + 8 + k) 0
    word k l =
        ap (λ (j : ℕ). get_or after j 0) {x = at + 8 + k} {y = at + (8 + k)} (omega arith)
        ∙ e (8 + k) (omega arith) (λ z y. omega arith)
        ∙ ap (λ (j : ℕ). get_or room j 0) {x = at + (8 + k)} {y = at + 8 + k} (omega arith)

-- a choice of the same height, clause and words
pub choice-same : (C : Choice) (s p : ℕ) (x : Atom) {h h' k k' : ℕ} {ns ns' : List ℕ} → h ≡ h' → k ≡ k' → ns ≡ ns' → C s p h x k ns → C s p h' x k' ns'
choice-same C s p x {h} {h'} {k} {k'} {ns} {ns'} a b d c =
    subst (λ (z : List ℕ). C s p h' x k' z) d (subst (λ (j : ℕ). C s p h' x j ns) b (subst (λ (i : ℕ). C s p i x k ns) a c))

module _ {f : Files} {us : List Term} {T : Truth} {C : Choice} {s : ℕ} {room : List ℕ} {after : List ℕ} {at : ℕ} where
  -- a slot with the same entry, and with heights and a choice that are true, is right
  pub right-heights : (R : Right f us T C s room at) → Entry room after at
      → (0 < failed_at after at → T s (parameters_of room at) (failed_at after at) (replaced_atom us (bindings_at room (slot_spot room at)) R.atom) ≡ false)
      → (0 < proved_at after at → T s (parameters_of room at) (proved_at after at) (replaced_atom us (bindings_at room (slot_spot room at)) R.atom) ≡ true)
      → (0 < choice_at after at → C s (parameters_of room at) (proved_at after at) (replaced_atom us (bindings_at room (slot_spot room at)) R.atom) (choice_at after at - 1) (words_in after (numbers_word room at) (numbers_of room at)))
      → Right f us T C s after at
  right-heights R e no' yes' by =
      let p : parameters_of after at ≡ parameters_of room at = e 4 (omega arith) (λ z y. omega arith) in
      let c : count_of after at ≡ count_of room at = e 2 (omega arith) (λ z y. omega arith) in
      let x : replaced_atom us (bindings_at after (slot_spot after at)) R.atom ≡ replaced_atom us (bindings_at room (slot_spot room at)) R.atom = ap (λ (bs : Bindings). replaced_atom us bs R.atom) (entry-bindings room after at e) in
      record {
        few = omega (arith, c, R.few);
        atom = R.atom;
        here = subst (λ (y : Spot). AtomAt f y R.atom) (sym (entry-spot room after at e)) R.here;
        failed = λ h. ap (λ (q : ℕ). T s q (failed_at after at) (replaced_atom us (bindings_at after (slot_spot after at)) R.atom)) p ∙ ap (T s (parameters_of room at) (failed_at after at)) x ∙ no' h;
        proved = λ h. ap (λ (q : ℕ). T s q (proved_at after at) (replaced_atom us (bindings_at after (slot_spot after at)) R.atom)) p ∙ ap (T s (parameters_of room at) (proved_at after at)) x ∙ yes' h;
        chosen = λ h.
            subst (λ (q : ℕ). C s q (proved_at after at) (replaced_atom us (bindings_at after (slot_spot after at)) R.atom) (choice_at after at - 1) (words_in after (numbers_word after at) (numbers_of after at))) (sym p)
            (subst (λ (y : Atom). C s (parameters_of room at) (proved_at after at) y (choice_at after at - 1) (words_in after (numbers_word after at) (numbers_of after at))) (sym x)
            (subst (λ (n : ℕ). C s (parameters_of room at) (proved_at after at) (replaced_atom us (bindings_at room (slot_spot room at)) R.atom) (choice_at after at - 1) (words_in after (at + (16 - (8 - n))) (8 - n))) (sym c) (by h)));
      }

  -- a slot with the same words is right
  pub right-alike : Right f us T C s room at → ((k : ℕ) → k < 16 → get_or after (at + k) 0 ≡ get_or room (at + k) 0) → Right f us T C s after at
  right-alike R e =
      let x = replaced_atom us (bindings_at room (slot_spot room at)) R.atom in
      let p = parameters_of room at in
      right-heights R (λ k l n. e k (omega (arith, R.few)))
      (λ h. ap (λ (q : ℕ). T s p q x) (e 5 (omega arith)) ∙ R.failed (subst (λ (q : ℕ). 0 < q) (e 5 (omega arith)) h))
      (λ h. ap (λ (q : ℕ). T s p q x) (e 6 (omega arith)) ∙ R.proved (subst (λ (q : ℕ). 0 < q) (e 6 (omega arith)) h))
      (λ h. choice-same C s p x (sym (e 6 (omega arith))) (ap (λ (q : ℕ). q - 1) (sym (e 7 (omega arith)))) (sym (words-alike room after (numbers_word room at) (numbers_word room at) (numbers_of room at) word)) (R.chosen (subst (λ (q : ℕ). 0 < q) (e 7 (omega arith)) h)))
    where
      word : (k : ℕ) → k < numbers_of room at → get_or after (numbers_word room at + k) 0 ≡ get_or room (numbers_word room at + k) 0
      word k l =
          ap (λ (j : ℕ). get_or after j 0) {x = numbers_word room at + k} {y = at + (16 - numbers_of room at + k)} (omega arith)
          ∙ (e (16 - numbers_of room at + k) (omega arith) ∙ ap (λ (j : ℕ). get_or room j 0) {x = at + (16 - numbers_of room at + k)} {y = numbers_word room at + k} (omega arith))

-- and so it is of another truth that agrees there
pub right-truth : {f : Files} {us : List Term} {T T' : Truth} {C C' : Choice} {s : ℕ} {room : List ℕ} {at : ℕ} → Right f us T C s room at → ((p h : ℕ) (a : Atom) → T' s p h a ≡ T s p h a) → ((p h : ℕ) (a : Atom) (k : ℕ) (ns : List ℕ) → C s p h a k ns → C' s p h a k ns) → Right f us T' C' s room at
right-truth R e d = record { few = R.few; atom = R.atom; here = R.here; failed = λ h. e _ _ _ ∙ R.failed h; proved = λ h. e _ _ _ ∙ R.proved h; chosen = λ h. d _ _ _ _ _ (R.chosen h) }

slot-length : {n m at : ℕ} → n ≡ m → Slot n at → Slot m at
slot-length {at = at} e S = subst (λ (k : ℕ). Slot k at) e S

module _ {f : Files} {us : List Term} {T : Truth} {C : Choice} {m : ℕ} {room after : List ℕ} where
  -- the table speaks of its own words only
  pub good-kept : Good f us T C m room → length after ≡ length room → ((i : ℕ) → table_word ≤ i → get_or after i 0 ≡ get_or room i 0) → Good f us T C m after
  good-kept g e k at s S h l =
      let z = S.first in
      right-alike (g at s (slot-length e S) (sym (k (at + 3) (omega arith)) ∙ h) l) (λ j b. k (at + j) (omega arith))

  -- one slot is changed to one that is right, if it is spoken of
  pub good-changed : (o : ℕ) → o % 16 ≡ 0 → Good f us T C m room → length after ≡ length room → ((i : ℕ) → (o ≤ i → i < o + 16 → ⊥) → get_or after i 0 ≡ get_or room i 0)
      → ((s : ℕ) → mark_of after o ≡ s + 1 → s ≤ m → Right f us T C s after o) → Good f us T C m after
  good-changed o step g e k r at s S h l = go (eqb at o) refl
    where
      go : (b : Bool) → eqb at o ≡ b → Right f us T C s after at
      go true q =
          let z = eqb-true at o q in
          subst (λ (i : ℕ). Right f us T C s after i) (sym z) (r s (subst (λ (i : ℕ). mark_of after i ≡ s + 1) z h) l)
      go false q =
          let n = eqb-false at o q in
          let t = S.step in
          let apart : (j : ℕ) → j < 16 → get_or after (at + j) 0 ≡ get_or room (at + j) 0 = λ j b. k (at + j) (λ x y. n (omega arith)) in
          right-alike (g at s (slot-length e S) (sym (apart 3 (omega arith)) ∙ h) l) apart

-- what is right for some supposed clauses is so for fewer
pub good-fewer : {f : Files} {us : List Term} {T : Truth} {C : Choice} {m n : ℕ} {room : List ℕ} → n ≤ m → Good f us T C m room → Good f us T C n room
good-fewer b g at s S h l = g at s S h (omega arith)

-- and of another truth that agrees so far
pub good-truth : {f : Files} {us : List Term} {T T' : Truth} {C C' : Choice} {m : ℕ} {room : List ℕ} → ((s p h : ℕ) (a : Atom) → s ≤ m → T' s p h a ≡ T s p h a) → ((s p h : ℕ) (a : Atom) (k : ℕ) (ns : List ℕ) → s ≤ m → C s p h a k ns → C' s p h a k ns) → Good f us T C m room → Good f us T' C' m room
good-truth e d g at s S h l = right-truth (g at s S h l) (λ p q a. e s p q a l) (λ p q a k ns. d s p q a k ns l)

-- a table without an entry is right, whatever is true
pub good-empty : (f : Files) (us : List Term) (T : Truth) (C : Choice) (m : ℕ) (room : List ℕ) → Empty room → Good f us T C m room
good-empty f us T C m room none' at s S h l = let e = none' at S in absurd (omega arith)

module _ {f : Files} {room : List ℕ} {w : Where} {at : ℕ} (t : This f room w at) where
  pub this-slot : at % 16 ≡ 0 → Slot (length room) at
  this-slot e = record { first = t.first; step = e; inside = t.inside }

  module _ {us : List Term} {T : Truth} {C : Choice} (a : Atom) (R : Right f us T C w.supposed room at) (us-in : CandidatesIn room f.terms us) (A : AtomAt f w.goal a) where
    -- the atoms compared are equal, variables replaced
    pub this-atom : replaced_atom us (bindings_at room (slot_spot room at)) R.atom ≡ replaced_atom us (bindings_at room w.goal) a
    this-atom =
        same-atoms-equal (replaced_atom us (bindings_at room (slot_spot room at)) R.atom) (replaced_atom us (bindings_at room w.goal) a)
        (sym (t.same us R.atom a us-in R.here A))

    -- so what is true of one is true of the other
    pub this-true : (h : ℕ) → T w.supposed (parameters_of room at) h (replaced_atom us (bindings_at room (slot_spot room at)) R.atom) ≡ T w.supposed w.parameters h (replaced_atom us (bindings_at room w.goal) a)
    this-true h =
        ap (λ (p : ℕ). T w.supposed p h (replaced_atom us (bindings_at room (slot_spot room at)) R.atom)) t.parameters
        ∙ ap (T w.supposed w.parameters h) this-atom

    pub this-choice : {h k : ℕ} {ns : List ℕ} → C w.supposed (parameters_of room at) h (replaced_atom us (bindings_at room (slot_spot room at)) R.atom) k ns → C w.supposed w.parameters h (replaced_atom us (bindings_at room w.goal) a) k ns
    this-choice {h} {k} {ns} c = subst (λ (y : Atom). C w.supposed w.parameters h y k ns) this-atom (subst (λ (p : ℕ). C w.supposed p h (replaced_atom us (bindings_at room (slot_spot room at)) R.atom) k ns) t.parameters c)

    pub choice-this : {h k : ℕ} {ns : List ℕ} → C w.supposed w.parameters h (replaced_atom us (bindings_at room w.goal) a) k ns → C w.supposed (parameters_of room at) h (replaced_atom us (bindings_at room (slot_spot room at)) R.atom) k ns
    choice-this {h} {k} {ns} c = subst (λ (p : ℕ). C w.supposed p h (replaced_atom us (bindings_at room (slot_spot room at)) R.atom) k ns) (sym t.parameters) (subst (λ (y : Atom). C w.supposed w.parameters h y k ns) (sym this-atom) c)

-- a slot's words and its spot, as the code has found them
pub this-is : (f : Files) (room : List ℕ) (w : Where) (at : ℕ) {r b : Bool} {y : Spot} {n p : ℕ} → (table_word ≤ at) × (at + 16 ≤ length room) → n ≡ mark_of room at → b ≡ eqb n (w.supposed + 1) → b ≡ true → p ≡ parameters_of room at → p ≡ w.parameters
    → (at + 16 ≤ length room → y ≡ slot_spot room at) → SameAtoms f room y w.goal r → IsThis f room w at r
this-is f room w at {r} {b} {y} {n} {p} l m t e q z h S yes' = record {
  first = l.0;
  inside = l.1;
  supposed = sym m ∙ eqb-true n (w.supposed + 1) (sym t ∙ e);
  parameters = sym q ∙ z;
  same = subst (λ (x : Spot). SameAtoms f room x w.goal true) (h l.1) (subst (λ (x : Bool). SameAtoms f room y w.goal x) yes' S);
}

-- what fails within a height fails within a smaller one
falls : (T : Truth) (s p h h' : ℕ) (a : Atom) → Rises T → T s p h' a ≡ false → h ≤ h' → T s p h a ≡ false
falls T s p h h' a up e l = go (T s p h a) refl
  where
    go : (b : Bool) → T s p h a ≡ b → T s p h a ≡ false
    go true q = absurd (false≢true (sym e ∙ up s p h h' a q l))
    go false q = q

module _ (f : Files) (room : List ℕ) (w : Where) (height at : ℕ) {us : List Term} {T : Truth} {C : Choice} (a : Atom) (step : at % 16 ≡ 0) (g : Good f us T C w.supposed room) (us-in : CandidatesIn room f.terms us) (A : AtomAt f w.goal a) where
  -- what is recalled is true: a failure at most up to its height, a success from its height on
  pub recalls-so : (r : Option Bool) → Rises T → Recalls f room w height at r → Says (T w.supposed w.parameters height (replaced_atom us (bindings_at room w.goal) a)) r
  recalls-so None up h = tt
  recalls-so (Some false) up (t, n, l) =
      let R = g at w.supposed (this-slot t step) t.supposed (omega arith) in
      falls T w.supposed w.parameters height (failed_at room at) (replaced_atom us (bindings_at room w.goal) a) up
      (sym (this-true t a R us-in A (failed_at room at)) ∙ R.failed (omega arith)) l
  recalls-so (Some true) up (t, n, l) =
      let R = g at w.supposed (this-slot t step) t.supposed (omega arith) in
      up w.supposed w.parameters (proved_at room at) height (replaced_atom us (bindings_at room w.goal) a)
      (sym (this-true t a R us-in A (proved_at room at)) ∙ R.proved (omega arith)) l

  -- and so is the choice
  pub chosen-so : (k : ℕ) → Chose f room w height at (Some k) → C w.supposed w.parameters height (replaced_atom us (bindings_at room w.goal) a) k (words_in room (numbers_word room at) (numbers_of room at))
  chosen-so k (t, e, q) =
      let R = g at w.supposed (this-slot t step) t.supposed (omega arith) in
      choice-same C w.supposed w.parameters (replaced_atom us (bindings_at room w.goal) a) e (omega (arith, q)) refl (this-choice t a R us-in A (R.chosen (omega arith)))
