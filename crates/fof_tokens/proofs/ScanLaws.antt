-- The machine along a text: at a byte, at the end, over bytes of one class; and two states that go on alike.
use Prim.Native.Nat.{ℕ, suc, ◌+◌, ◌<◌, ◌≤◌}
use mathlib.Core.Path.{◌≡◌, refl, sym, ◌∙◌, ap, ap₂, subst}
use mathlib.Core.Bool.{Bool, true, false}
use mathlib.Core.List.{List, [], ◌∷◌}
use mathlib.Core.Option.{Option, some}
use native.Mathlib.Omega.{arith}
use lib.Dec.{ltb}
use lib.ListN.{length, drop, get_or, drop_of_length-le, get_or-eq_default}
use lib.Seq.{drop-cons, drop-drop}
use borrow.Author.Tests.{ltb-true, ltb-false}
use Rattle.fof_tokens.specs.Rule.{empty, byte, many}
use Rattle.fof_tokens.specs.Machine.{Sort, Row, step, ended, note, scan}
use Rattle.fof_tokens.specs.Runs.{span}

pub scan-end : (q : List Row) (at : ℕ) (last : Option (Sort × ℕ)) (t : List ℕ) → length t ≤ at → scan q at last (drop at t) ≡ note (ended q) at last
unfolding scan
scan-end q at last t h = ap (λ (x : List ℕ). scan q at last x) (drop_of_length-le t {i = at} h)

pub scan-byte : (q : List Row) (at : ℕ) (last : Option (Sort × ℕ)) (t : List ℕ) → at < length t →
    scan q at last (drop at t) ≡ scan (step (get_or t at 0) q) (at + 1) (note (ended q) at last) (drop (at + 1) t)
unfolding scan
scan-byte q at last t h =
    ap (λ (x : List ℕ). scan q at last x) (drop-cons t at 0 h)
    ∙ ap (λ (x : ℕ). scan (step (get_or t at 0) q) (at + 1) (note (ended q) at last) (drop x t)) {x = suc at} {y = at + 1} (omega arith)

-- nothing can come any more
pub stuck : (at : ℕ) (last : Option (Sort × ℕ)) (w : List ℕ) → scan [] at last w ≡ last
unfolding scan
stuck at last [] = refl
stuck at last (c ∷ w) = stuck (at + 1) last w

-- by whether the text goes on
pub at-text : (P : Type 0) (t : List ℕ) (at : ℕ) → (at < length t → P) → (length t ≤ at → P) → P
at-text P t at f g = go (ltb at (length t)) refl
  where
    go : (b : Bool) → ltb at (length t) ≡ b → P
    go true e = f (ltb-true at (length t) e)
    go false e = g (ltb-false at (length t) e)

pub halts : (q : List Row) (at : ℕ) (last : Option (Sort × ℕ)) (t : List ℕ) → step (get_or t at 0) q ≡ [] → scan q at last (drop at t) ≡ note (ended q) at last
halts q at last t e = at-text (scan q at last (drop at t) ≡ note (ended q) at last) t at
    (λ h. scan-byte q at last t h
    ∙ ap (λ (x : List Row). scan x (at + 1) (note (ended q) at last) (drop (at + 1) t)) e
    ∙ stuck (at + 1) (note (ended q) at last) (drop (at + 1) t))
    (λ h. scan-end q at last t h)

pub goes : (q q' : List Row) (at : ℕ) (last : Option (Sort × ℕ)) (t : List ℕ) → at < length t → step (get_or t at 0) q ≡ q' →
    scan q at last (drop at t) ≡ scan q' (at + 1) (note (ended q) at last) (drop (at + 1) t)
goes q q' at last t h e =
    scan-byte q at last t h ∙ ap (λ (x : List Row). scan x (at + 1) (note (ended q) at last) (drop (at + 1) t)) e

-- two states that go on alike
pub alike : (q q' : List Row) (at : ℕ) (last last' : Option (Sort × ℕ)) (t : List ℕ) → step (get_or t at 0) q ≡ step (get_or t at 0) q' →
    note (ended q) at last ≡ note (ended q') at last' → scan q at last (drop at t) ≡ scan q' at last' (drop at t)
alike q q' at last last' t e n = at-text (scan q at last (drop at t) ≡ scan q' at last' (drop at t)) t at
    (λ h. scan-byte q at last t h
    ∙ ap₂ (λ (x : List Row) (y : Option (Sort × ℕ)). scan x (at + 1) y (drop (at + 1) t)) e n
    ∙ sym (scan-byte q' at last' t h))
    (λ h. scan-end q at last t h ∙ n ∙ sym (scan-end q' at last' t h))

-- a byte that is not 0 is in the text
pub inside-text : (t : List ℕ) (at : ℕ) → (get_or t at 0 ≡ 0 → ⊥) → at < length t
inside-text t at f = at-text (at < length t) t at (λ h. h) (λ h. absurd (f (get_or-eq_default t 0 {n = at} h)))

pub known : (t : List ℕ) (at b v : ℕ) → b ≡ get_or t at 0 → b ≡ v → 0 < v → at < length t
known t at b v e q h = inside-text t at (λ z. absurd (omega arith))

-- nothing more may come, and a piece may end
pub full : (s : Sort) (at : ℕ) (last : Option (Sort × ℕ)) (w : List ℕ) → scan ((s, empty) ∷ []) at last w ≡ some (s, at)
unfolding scan
full s at last [] = refl
full s at last (c ∷ w) = stuck (at + 1) (some (s, at)) w

-- bytes of one class

pub span_more : (t : ℕ → Bool) (c : ℕ) (w : List ℕ) → t c ≡ true → span t (c ∷ w) ≡ suc (span t w)
unfolding span
span_more t c w e = ap (λ (b : Bool). elim b as (λ x. ℕ) [ true ↦ suc (span t w) | false ↦ 0 ]) e

pub span_none : (t : ℕ → Bool) (c : ℕ) (w : List ℕ) → t c ≡ false → span t (c ∷ w) ≡ 0
unfolding span
span_none t c w e = ap (λ (b : Bool). elim b as (λ x. ℕ) [ true ↦ suc (span t w) | false ↦ 0 ]) e

-- the state q stays where bytes pass the test, and goes on like q' where one does not; a piece s may end in both
pub record Passing (t : ℕ → Bool) (q q' : List Row) (s : Sort) : Type 0 where
  pub stays : (c : ℕ) → t c ≡ true → step c q ≡ q
  pub leaves : (c : ℕ) → t c ≡ false → step c q ≡ step c q'
  pub ends : ended q ≡ some s
  pub ends' : ended q' ≡ some s

run : (t : ℕ → Bool) (q q' : List Row) (s : Sort) → Passing t q q' s → (w : List ℕ) (at : ℕ) (last last' : Option (Sort × ℕ)) →
    scan q at last w ≡ scan q' (at + span t w) last' (drop (span t w) w)
unfolding scan span
run t q q' s p [] at last last' =
    ap (λ (o : Option Sort). note o at last) p.ends
    ∙ ap (λ (x : ℕ). some (s, x)) {x = at} {y = at + 0} (omega arith)
    ∙ ap (λ (o : Option Sort). note o (at + 0) last') (sym p.ends')
run t q q' s p (c ∷ w) at last last' = go (t c) refl (λ l. run t q q' s p w (at + 1) l last')
  where
    go : (b : Bool) → t c ≡ b → ((l : Option (Sort × ℕ)) → scan q (at + 1) l w ≡ scan q' (at + 1 + span t w) last' (drop (span t w) w)) →
        scan (step c q) (at + 1) (note (ended q) at last) w ≡ scan q' (at + span t (c ∷ w)) last' (drop (span t (c ∷ w)) (c ∷ w))
    go true e ih = subst (λ (n : ℕ). scan (step c q) (at + 1) (note (ended q) at last) w ≡ scan q' (at + n) last' (drop n (c ∷ w))) (sym (span_more t c w e))
        (ap (λ (x : List Row). scan x (at + 1) (note (ended q) at last) w) (p.stays c e)
        ∙ ih (note (ended q) at last)
        ∙ ap (λ (x : ℕ). scan q' x last' (drop (span t w) w)) {x = at + 1 + span t w} {y = at + suc (span t w)} (omega arith))
    go false e ih = subst (λ (n : ℕ). scan (step c q) (at + 1) (note (ended q) at last) w ≡ scan q' (at + n) last' (drop n (c ∷ w))) (sym (span_none t c w e))
        (ap₂ (λ (x : List Row) (y : Option (Sort × ℕ)). scan x (at + 1) y w) (p.leaves c e)
        (ap (λ (o : Option Sort). note o at last) p.ends ∙ ap (λ (o : Option Sort). note o at last') (sym p.ends'))
        ∙ ap (λ (x : ℕ). scan q' x last' (c ∷ w)) {x = at} {y = at + 0} (omega arith))

-- as many as there are
pub run-text : (t : ℕ → Bool) (q q' : List Row) (s : Sort) (text : List ℕ) (at e : ℕ) (last last' : Option (Sort × ℕ)) → Passing t q q' s →
    e ≡ at + span t (drop at text) → scan q at last (drop at text) ≡ scan q' e last' (drop e text)
run-text t q q' s text at e last last' p h =
    run t q q' s p (drop at text) at last last'
    ∙ ap (λ (x : List ℕ). scan q' (at + span t (drop at text)) last' x) (drop-drop (span t (drop at text)) at text)
    ∙ ap (λ (x : ℕ). scan q' x last' (drop x text)) (sym h)

-- a repetition of bytes of the class
pub repeats : (t : ℕ → Bool) (s : Sort) → Passing t ((s, many (byte t)) ∷ []) ((s, empty) ∷ []) s
repeats t s = record { stays = λ c e. rw e refl; leaves = λ c e. rw e refl; ends = refl; ends' = refl }

pub run-full : (t : ℕ → Bool) (s : Sort) (text : List ℕ) (at e : ℕ) (last : Option (Sort × ℕ)) →
    e ≡ at + span t (drop at text) → scan ((s, many (byte t)) ∷ []) at last (drop at text) ≡ some (s, e)
run-full t s text at e last h =
    run-text t ((s, many (byte t)) ∷ []) ((s, empty) ∷ []) s text at e last last (repeats t s) h ∙ full s e last (drop e text)

-- the code's loop: one more byte passed, or none
pub span-next : (t : ℕ → Bool) (text : List ℕ) (at i : ℕ) → i < length text → t (get_or text i 0) ≡ true →
    at + span t (drop at text) ≡ i + span t (drop i text) → at + span t (drop at text) ≡ i + 1 + span t (drop (i + 1) text)
span-next t text at i h e q =
    q
    ∙ ap (λ (x : ℕ). i + x) (ap (span t) (drop-cons text i 0 h) ∙ span_more t (get_or text i 0) (drop (suc i) text) e)
    ∙ ap (λ (x : ℕ). i + suc (span t (drop x text))) {x = suc i} {y = i + 1} (omega arith)
    ∙ omega arith

pub span-stop : (t : ℕ → Bool) (text : List ℕ) (at i : ℕ) → i < length text → t (get_or text i 0) ≡ false →
    at + span t (drop at text) ≡ i + span t (drop i text) → i ≡ at + span t (drop at text)
span-stop t text at i h e q =
    let z = ap (span t) (drop-cons text i 0 h) ∙ span_none t (get_or text i 0) (drop (suc i) text) e in omega arith

pub span-end : (t : ℕ → Bool) (text : List ℕ) (at i : ℕ) → length text ≤ i →
    at + span t (drop at text) ≡ i + span t (drop i text) → i ≡ at + span t (drop at text)
unfolding span
span-end t text at i h q = let z : span t (drop i text) ≡ 0 = ap (span t) (drop_of_length-le text {i = i} h) in omega arith
