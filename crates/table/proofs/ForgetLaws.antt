-- Laws of emptying, slot after slot: of what was found under so many supposed clauses, as in `forget`, or of everything, as in `empty_all`. Then what is right up to one clause less is right up to so many, whatever is true there; or no slot holds anything.
use Prim.Native.Nat.{ℕ, suc, ◌+◌, ◌*◌, ◌%◌, ◌≤◌, ◌<◌}
use mathlib.Core.Path.{◌≡◌, refl, sym, ◌∙◌, ap, subst}
use mathlib.Core.Bool.{Bool, true, false}
use mathlib.Core.List.{List}
use native.Mathlib.Omega.{arith}
use lib.Dec.{eqb}
use lib.ListN.{length, get_or, set, length-set}
use lib.Seq.{get_or-set_same, get_or-set_other}
use borrow.Author.Tests.{eqb-true, eqb-false, eq-eqb, ne_eqb}
use Rattle.basics.specs.Choice.{choose}
use Rattle.harrop.specs.Formula.{Term, Atom}
use Rattle.room.specs.Files.{Files}
use Rattle.table.specs.Slots.{table_word, Slot, mark_of, emptied}
use Rattle.table.specs.Good.{Truth, Choice, Right, Good}
use Rattle.table.specs.Recall.{TableOnly, Forgets, Empty}
use Rattle.table.proofs.GoodLaws.{right-alike, right-truth}

pub emptied-some : (room : List ℕ) (at supposed : ℕ) → eqb (mark_of room at) (supposed + 1) ≡ true → set room (at + 3) 0 ≡ emptied room at supposed
unfolding emptied
emptied-some room at supposed e = rw e refl

pub emptied-none : (room : List ℕ) (at supposed : ℕ) → eqb (mark_of room at) (supposed + 1) ≡ false → room ≡ emptied room at supposed
unfolding emptied
emptied-none room at supposed e = rw e refl

-- by the code's test
pub emptied-tested : (room : List ℕ) (at supposed : ℕ) {r : List ℕ} {n : ℕ} {b : Bool} → n ≡ mark_of room at → b ≡ eqb n (supposed + 1) → b ≡ true → r ≡ set room (at + 3) 0 → r ≡ emptied room at supposed
emptied-tested room at supposed e t q h = h ∙ emptied-some room at supposed (ap (λ (k : ℕ). eqb k (supposed + 1)) (sym e) ∙ sym t ∙ q)

pub emptied-passed : (room : List ℕ) (at supposed : ℕ) {n : ℕ} {b : Bool} → n ≡ mark_of room at → b ≡ eqb n (supposed + 1) → b ≡ false → room ≡ emptied room at supposed
emptied-passed room at supposed e t q = emptied-none room at supposed (ap (λ (k : ℕ). eqb k (supposed + 1)) (sym e) ∙ sym t ∙ q)

-- a word is as it was, or held a slot's mark and is 0
pub data Emptied (before after : List ℕ) (i : ℕ) : Type 0 where
  same : get_or after i 0 ≡ get_or before i 0 → Emptied before after i
  gone : table_word ≤ i → i % 16 ≡ 3 → get_or after i 0 ≡ 0 → Emptied before after i

-- so is each word, and the marks of the slots before word n are as they are to be
pub record Cleared (left : ℕ → Type 0) (before after : List ℕ) (n : ℕ) : Type 0 where
  pub long : length after ≡ length before
  pub each : (i : ℕ) → Emptied before after i
  pub marks : (at : ℕ) → Slot (length before) at → at < n → left (mark_of after at)

-- no mark is that of so many supposed clauses, as `forget` is to leave it; and no slot is marked, as `empty_all` is
abbrev pub Forgotten : List ℕ → List ℕ → ℕ → ℕ → Type 0
Forgotten before after supposed n = Cleared (λ (mark : ℕ). mark ≡ supposed + 1 → ⊥) before after n

abbrev pub Bare : List ℕ → List ℕ → ℕ → Type 0
Bare before after n = Cleared (λ (mark : ℕ). mark ≡ 0) before after n

emptied-after : {before room after : List ℕ} {i : ℕ} → Emptied before room i → get_or after i 0 ≡ get_or room i 0 → Emptied before after i
emptied-after (Emptied.same e) h = Emptied.same (h ∙ e)
emptied-after (Emptied.gone l m e) h = Emptied.gone l m (h ∙ e)

-- slots begin 16 words apart
slot-before : {words : ℕ} {o at : ℕ} → Slot words o → at % 16 ≡ 0 → o < at + 16 → (o ≡ at → ⊥) → o < at
slot-before Z t l n = let u = Z.step in omega arith

module _ (left : ℕ → Type 0) (before : List ℕ) where
  pub cleared-first : Cleared left before before table_word
  cleared-first = record { long = refl; each = λ i. Emptied.same refl; marks = λ at S l. absurd (omega (arith, S.first)) }

  -- one slot more, whose mark is so already
  cleared-same : (room : List ℕ) (at : ℕ) → Slot (length room) at → left (mark_of room at) → Cleared left before room at → Cleared left before room (at + 16)
  cleared-same room at S m C = record { long = C.long; each = C.each; marks = λ o Z l. go o Z l (eqb o at) refl }
    where
      go : (o : ℕ) → Slot (length before) o → o < at + 16 → (b : Bool) → eqb o at ≡ b → left (mark_of room o)
      go o Z l true q = subst (λ (j : ℕ). left (mark_of room j)) (sym (eqb-true o at q)) m
      go o Z l false q = C.marks o Z (slot-before Z S.step l (eqb-false o at q))

  -- or is made 0
  pub cleared-next : (room : List ℕ) (at : ℕ) → Slot (length room) at → left 0 → Cleared left before room at → Cleared left before (set room (at + 3) 0) (at + 16)
  cleared-next room at S m C =
      cleared-same (set room (at + 3) 0) at (subst (λ (n : ℕ). Slot n at) (sym (length-set room (at + 3) 0)) S) (subst left (sym here) m) (record {
        long = length-set room (at + 3) 0 ∙ C.long;
        each = λ i. word i (eqb i (at + 3)) refl;
        marks = λ o Z l. subst left (sym (get_or-set_other room (at + 3) (o + 3) 0 0 (λ e. omega arith))) (C.marks o Z l);
      })
    where
      here : mark_of (set room (at + 3) 0) at ≡ 0
      here = get_or-set_same room (at + 3) 0 0 (omega (arith, S.inside))

      word : (i : ℕ) (b : Bool) → eqb i (at + 3) ≡ b → Emptied before (set room (at + 3) 0) i
      word i true q =
          let z = eqb-true i (at + 3) q in
          let t = S.step in
          Emptied.gone (omega (arith, S.first)) (omega arith) (ap (λ (j : ℕ). get_or (set room (at + 3) 0) j 0) z ∙ here)
      word i false q = emptied-after (C.each i) (get_or-set_other room (at + 3) i 0 0 (eqb-false i (at + 3) q))

  -- nothing below the table is written
  pub cleared-only : (after : List ℕ) (n : ℕ) → Cleared left before after n → TableOnly before after
  cleared-only after n C = record { long = C.long; below = λ i l. go i l (C.each i) }
    where
      go : (i : ℕ) → i < table_word → Emptied before after i → get_or after i 0 ≡ get_or before i 0
      go i l (Emptied.same e) = e
      go i l (Emptied.gone b m e) = absurd (omega arith)

-- one slot more that is emptied, if what it holds is to be forgotten
pub forgotten-next : (before room : List ℕ) (supposed at : ℕ) → Slot (length room) at → Forgotten before room supposed at → Forgotten before (emptied room at supposed) supposed (at + 16)
forgotten-next before room supposed at S F = go (eqb (mark_of room at) (supposed + 1)) refl
  where
    go : (b : Bool) → eqb (mark_of room at) (supposed + 1) ≡ b → Forgotten before (emptied room at supposed) supposed (at + 16)
    go true e =
        subst (λ (r : List ℕ). Forgotten before r supposed (at + 16)) (emptied-some room at supposed e)
        (cleared-next (λ (mark : ℕ). mark ≡ supposed + 1 → ⊥) before room at S (λ z. omega arith) F)
    go false e =
        subst (λ (r : List ℕ). Forgotten before r supposed (at + 16)) (emptied-none room at supposed e)
        (cleared-same (λ (mark : ℕ). mark ≡ supposed + 1 → ⊥) before room at S (eqb-false (mark_of room at) (supposed + 1) e) F)

-- all slots
pub forgotten-all : (before after : List ℕ) (supposed n : ℕ) → Forgotten before after supposed n → length after < n + 16 → Forgets before after supposed
forgotten-all before after supposed n F end =
    record {
      long = F.long;
      gone = λ at S. let i = S.inside in F.marks at S (omega (arith, F.long));
      rest = λ at s S h k b. word at s S h k b (marked at s S h (F.each (at + 3))) (F.each (at + k));
    }
  where
    marked : (at s : ℕ) → Slot (length before) at → mark_of after at ≡ s + 1 → Emptied before after (at + 3) → mark_of after at ≡ mark_of before at
    marked at s S h (Emptied.same q) = q
    marked at s S h (Emptied.gone b c q) = absurd (omega arith)

    word : (at s : ℕ) → Slot (length before) at → mark_of after at ≡ s + 1 → (k : ℕ) → k < 16 → mark_of after at ≡ mark_of before at → Emptied before after (at + k) → get_or after (at + k) 0 ≡ get_or before (at + k) 0
    word at s S h k b mark (Emptied.same q) = q
    word at s S h k b mark (Emptied.gone c d q) =
        let t = S.step in
        let three : k ≡ 3 = omega arith in
        ap (λ (j : ℕ). get_or after (at + j) 0) three ∙ mark ∙ ap (λ (j : ℕ). get_or before (at + j) 0) (sym three)

-- what is right up to m supposed clauses is right up to one more, whatever is true under that one
pub forgets-good : {f : Files} {us : List Term} {T T' : Truth} {C C' : Choice} {before after : List ℕ} {supposed : ℕ} (m : ℕ) → Forgets before after supposed → supposed ≡ m + 1
    → ((s p h : ℕ) (a : Atom) → s ≤ m → T' s p h a ≡ T s p h a) → ((s p h : ℕ) (a : Atom) (k : ℕ) (ns : List ℕ) → s ≤ m → C s p h a k ns → C' s p h a k ns) → Good f us T C m before → Good f us T' C' (m + 1) after
forgets-good m F e agree agree' g at s S h l =
    let Z = subst (λ (k : ℕ). Slot k at) F.long S in
    let other : s ≡ m + 1 → ⊥ = λ q. F.gone at Z (omega arith) in
    let few : s ≤ m = omega arith in
    let same = F.rest at s Z h in
    right-truth (right-alike (g at s Z (sym (same 3 (omega arith)) ∙ h) few) same) (λ p q a. agree s p q a few) (λ p q a k ns. agree' s p q a k ns few)

pub bare-all : (before after : List ℕ) (n : ℕ) → Bare before after n → length after < n + 16 → Empty after
bare-all before after n B end at S = let i = S.inside in B.marks at (subst (λ (k : ℕ). Slot k at) B.long S) (omega arith)
