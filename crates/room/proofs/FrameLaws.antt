-- Laws of bindings in the room: a word and its binding tell each other; what variable i of a frame stands for; what a push and a copy leave in the frames.
-- From specs/Frame; every law holds of any room and any frame.
use Prim.Native.Nat.{ℕ, zero, suc, ◌+◌, ◌-◌, ◌*◌, ◌/◌, ◌%◌, ◌≤◌, ◌<◌}
use mathlib.Core.Path.{◌≡◌, refl, sym, ◌∙◌, ap, ap₂}
use mathlib.Core.Bool.{Bool, true, false, ◌&&◌}
use mathlib.Core.List.{List, [], ◌∷◌, ◌++◌, append_assoc}
use native.Mathlib.Omega.{arith}
use lib.Dec.{eqb, leb}
use lib.ListN.{length, get_or, take, drop, set, length-drop, get_or-append}
use lib.Seq.{paste, get_or-take, get_or-drop, get_or-set_same, take-set-le, take-take, take_at, drop_at, length-take-le, length-paste}
use borrow.Author.Tests.{leb-true, leb-false, eqb-true, eqb-false, eq-eqb, ne_eqb, le-leb, lt-leb}
use Rattle.basics.specs.Choice.{choose, both_true}
use Rattle.harrop.specs.declared.Binding.{Binding}
use Rattle.harrop.specs.declared.Binding.TheVariants.{Candidate, Parameter}
use Rattle.harrop.specs.Formula.{Term}
use Rattle.harrop.specs.Bindings.{Bindings, meant, value_of}
use Rattle.room.specs.Frame.{binding_word, binding_of, held, bindings_in, bound_to, copied}

-- a binding and its word tell each other
pub word-binding : (b : Binding) → binding_of (binding_word b) ≡ b
unfolding binding_of
word-binding (Candidate i) = rw (eq-eqb (i * 2 % 2) 0 (omega arith)) (ap Candidate {x = i * 2 / 2} {y = i} (omega arith))
word-binding (Parameter k) = rw (ne_eqb ((k * 2 + 1) % 2) 0 (omega arith)) (ap Parameter {x = (k * 2 + 1) / 2} {y = k} (omega arith))

pub binding-word : (w : ℕ) → binding_word (binding_of w) ≡ w
unfolding binding_of
binding-word w = go (eqb (w % 2) 0) refl
  where
    go : (t : Bool) → eqb (w % 2) 0 ≡ t → binding_word (choose t (Candidate (w / 2)) (Parameter (w / 2))) ≡ w
    go true e = let z = eqb-true (w % 2) 0 e in omega arith
    go false e = let z = eqb-false (w % 2) 0 e in omega arith

-- a word that fits is held as it is
pub held_same : (n : ℕ) → n ≤ 4294967295 → held n ≡ n
held_same n h = omega arith

pub held-binding : (b : Binding) → binding_word b ≤ 4294967295 → binding_of (held (binding_word b)) ≡ b
held-binding b h = ap binding_of (held_same (binding_word b) h) ∙ word-binding b

-- what a binding stands for is what its variable does
pub bound-means : (ts : List Term) (bs : Bindings) (i : ℕ) → meant ts (bound_to bs i) ≡ value_of ts bs i
unfolding bound_to
bound-means ts [] i = refl
bound-means ts (b ∷ bs) zero = refl
bound-means ts (b ∷ bs) (suc i) = bound-means ts bs i

-- variable i of a frame of n words is its word number n - 1 - i
pub bound-in : (room : List ℕ) (base n i : ℕ) → i < n → bound_to (bindings_in room base n) i ≡ binding_of (get_or room (base + (n - 1 - i)) 0)
unfolding bound_to bindings_in
bound-in room base zero i h = absurd (omega arith)
bound-in room base (suc n) zero h = ap (λ (k : ℕ). binding_of (get_or room (base + k) 0)) {x = n} {y = suc n - 1 - 0} (omega arith)
bound-in room base (suc n) (suc i) h = bound-in room base n i (omega arith) ∙ ap (λ (k : ℕ). binding_of (get_or room (base + k) 0)) {x = n - 1 - i} {y = suc n - 1 - suc i} (omega arith)

pub bound-out : (room : List ℕ) (base n i : ℕ) → n ≤ i → bound_to (bindings_in room base n) i ≡ Parameter 0
unfolding bound_to bindings_in
bound-out room base zero i h = refl
bound-out room base (suc n) zero h = absurd (omega arith)
bound-out room base (suc n) (suc i) h = bound-out room base n i (omega arith)

pub frame-length : (room : List ℕ) (base n : ℕ) → length (bindings_in room base n) ≡ n
unfolding bindings_in
frame-length room base zero = refl
frame-length room base (suc n) = ap suc (frame-length room base n)

-- two frames with the same words have the same bindings
pub frames-alike : (r s : List ℕ) (a b n : ℕ) → ((k : ℕ) → k < n → get_or r (a + k) 0 ≡ get_or s (b + k) 0) → bindings_in r a n ≡ bindings_in s b n
unfolding bindings_in
frames-alike r s a b zero h = refl
frames-alike r s a b (suc n) h = ap₂ {C = Bindings} (λ (w : ℕ) (bs : Bindings). binding_of w ∷ bs) (h n (omega arith)) (frames-alike r s a b n (λ k l. h k (omega arith)))

-- a frame below the top keeps its bindings where what is below the top is kept
pub word_kept : (r s : List ℕ) (top i : ℕ) → take top r ≡ take top s → i < top → get_or r i 0 ≡ get_or s i 0
word_kept r s top i e h = sym (get_or-take top r i 0 h) ∙ ap (λ (x : List ℕ). get_or x i 0) e ∙ get_or-take top s i 0 h

pub frame-kept : (r s : List ℕ) (top base n : ℕ) → take top r ≡ take top s → base + n ≤ top → bindings_in r base n ≡ bindings_in s base n
frame-kept r s top base n e h = frames-alike r s base base n (λ k l. word_kept r s top (base + k) e (omega arith))

-- what is below a lower top is kept too
pub kept-below : (r s : List ℕ) (low top : ℕ) → take top r ≡ take top s → low ≤ top → take low r ≡ take low s
kept-below r s low top e h = sym (take-take low top r h) ∙ ap (take low) e ∙ take-take low top s h

-- a binding pushed on a frame that ends at the top is the nearest of the frame, and nothing below the top changes
pub push_kept : (room : List ℕ) (top w : ℕ) → take top (set room top w) ≡ take top room
push_kept room top w = take-set-le top room top w (omega arith)

pub frame_pushed : (room : List ℕ) (base n : ℕ) (b : Binding) → base + n < length room → binding_word b ≤ 4294967295 → bindings_in (set room (base + n) (held (binding_word b))) base (suc n) ≡ b ∷ bindings_in room base n
unfolding bindings_in
frame_pushed room base n b h f =
    ap₂ {C = Bindings} (λ (x : Binding) (bs : Bindings). x ∷ bs)
    (ap binding_of (get_or-set_same room (base + n) (held (binding_word b)) 0 h) ∙ held-binding b f)
    (frame-kept (set room (base + n) (held (binding_word b))) room (base + n) base n (push_kept room (base + n) (held (binding_word b))) (omega arith))

-- a frame copied on top: the same bindings there, and nothing below the top changes
module _ (room : List ℕ) (base n top : ℕ) (below : base + n ≤ top) (inside : top + n ≤ length room) where
  pub copied_is : copied room base n top ≡ paste room top (drop base room) n
  unfolding copied
  copied_is = rw (le-leb (base + n) top below, le-leb (top + n) (length room) inside) refl

  pub copy-kept : take top (copied room base n top) ≡ take top room
  copy-kept = ap (take top) copied_is ∙ ap (take top) (append_assoc (take top room) (take n (drop base room)) (drop (top + n) room)) ∙ take_at (take top room) (take n (drop base room) ++ drop (top + n) room) top (length-take-le top room (omega arith))

  pub copy-length : length (copied room base n top) ≡ length room
  copy-length = ap length copied_is ∙ length-paste room top (drop base room) n inside (rw length-drop (omega arith))

  pub frame-copied : bindings_in (copied room base n top) top n ≡ bindings_in room base n
  frame-copied = frames-alike (copied room base n top) room top base n word_copied
    where
      word_copied : (k : ℕ) → k < n → get_or (copied room base n top) (top + k) 0 ≡ get_or room (base + k) 0
      word_copied k l = sym (get_or-drop top (copied room base n top) k 0) ∙ ap (λ (x : List ℕ). get_or (drop top x) k 0) copied_is
          ∙ ap (λ (x : List ℕ). get_or (drop top x) k 0) (append_assoc (take top room) (take n (drop base room)) (drop (top + n) room))
          ∙ ap (λ (x : List ℕ). get_or x k 0) (drop_at (take top room) (take n (drop base room) ++ drop (top + n) room) top (length-take-le top room (omega arith)))
          ∙ get_or-append (take n (drop base room)) (drop (top + n) room) 0 k (rw (length-take-le n (drop base room) (rw length-drop (omega arith))) l)
          ∙ get_or-take n (drop base room) k 0 l
          ∙ get_or-drop base room k 0

-- where there is no room above the top, or the frame does not end below it, nothing changes
pub not-copied : (room : List ℕ) (base n top : ℕ) → leb (base + n) top && leb (top + n) (length room) ≡ false → copied room base n top ≡ room
unfolding copied
not-copied room base n top e = rw e refl

-- whether a frame may be copied, by the code's tests
pub not-below : (base n top l : ℕ) → top < base + n → false ≡ (leb (base + n) top && leb (top + n) l)
not-below base n top l h = rw (lt-leb (base + n) top h) refl

pub not-inside : (base n top l : ℕ) → base + n ≤ top → l < top + n → false ≡ (leb (base + n) top && leb (top + n) l)
not-inside base n top l h g = rw (le-leb (base + n) top h, lt-leb (top + n) l g) refl

pub both-fit : (base n top l : ℕ) → base + n ≤ top → top ≤ l → leb n (l - top) ≡ (leb (base + n) top && leb (top + n) l)
both-fit base n top l h g = rw (le-leb (base + n) top h) (go (leb n (l - top)) refl)
  where
    go : (t : Bool) → leb n (l - top) ≡ t → t ≡ leb (top + n) l
    go true e = let z = leb-true n (l - top) e in sym (le-leb (top + n) l (omega arith))
    go false e = let z = leb-false n (l - top) e in sym (lt-leb (top + n) l (omega arith))

pub fit-bounds : (r : Bool) (base n top l : ℕ) → r ≡ (leb (base + n) top && leb (top + n) l) → r ≡ true → (base + n ≤ top) × (top + n ≤ l)
fit-bounds r base n top l e t =
    let (a, b) = both_true (leb (base + n) top) (leb (top + n) l) (sym e ∙ t) in
    (leb-true (base + n) top a, leb-true (top + n) l b)
