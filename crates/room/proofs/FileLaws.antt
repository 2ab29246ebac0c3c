-- Laws of files, parts of them and supposed clauses: what a part holds, and that what is supposed stays so.
use Prim.Native.Nat.{ℕ, suc, ◌+◌, ◌-◌, ◌≤◌, ◌<◌}
use mathlib.Core.Path.{◌≡◌, refl, ◌∙◌, ap₂}
use mathlib.Core.List.{List, [], ◌∷◌}
use native.Mathlib.Omega.{arith}
use lib.ListN.{length, take, drop, set, length-drop}
use lib.Seq.{take_all, sets}
use borrow.Author.Tests.{eq-eqb, ne_eqb, lt-ltb, le-ltb}
use Rattle.room.specs.declared.Source.{Source}
use Rattle.room.specs.declared.Source.TheVariants.{Rules, Goal, Terms}
use Rattle.room.specs.declared.Spot.{Spot}
use Rattle.room.specs.Spot.{source_number, source_of, spot_words, spot_from, nowhere, supposing, supposed_in}
use Rattle.room.specs.Layout.{supposed_word, supposed_at_most}

-- what a slice's part from an offset on holds
pub rest-whole : (s : List ℕ) (at : ℕ) → take (length s - at) (drop at s) ≡ drop at s
rest-whole s at = take_all (length s - at) (drop at s) (rw length-drop (omega arith))

-- a source and its number tell each other
pub source-again : (w : Source) → source_of (source_number w) ≡ w
unfolding source_of
source-again Rules = refl
source-again Goal = refl
source-again Terms = refl

pub number-1 : (n : ℕ) → n ≡ 1 → Rules ≡ source_of n
unfolding source_of
number-1 n e = rw (eq-eqb n 1 e) refl

pub number-2 : (n : ℕ) → (n ≡ 1 → ⊥) → n ≡ 2 → Goal ≡ source_of n
unfolding source_of
number-2 n h e = rw (ne_eqb n 1 h, eq-eqb n 2 e) refl

pub number-3 : (n : ℕ) → (n ≡ 1 → ⊥) → (n ≡ 2 → ⊥) → Terms ≡ source_of n
unfolding source_of
number-3 n h g = rw (ne_eqb n 1 h, ne_eqb n 2 g) refl

-- four words stored one after the other
pub four-stored : (r r₁ r₂ r₃ r₄ : List ℕ) (i a b c d : ℕ) → r₁ ≡ set r i a → r₂ ≡ set r₁ (i + 1) b → r₃ ≡ set r₂ (i + 2) c → r₄ ≡ set r₃ (i + 3) d → r₄ ≡ sets r i (a ∷ b ∷ c ∷ d ∷ [])
four-stored r r₁ r₂ r₃ r₄ i a b c d e₁ e₂ e₃ e₄ =
    let p₁ : i + 1 ≡ suc i = omega arith in
    let p₂ : i + 2 ≡ suc (suc i) = omega arith in
    let p₃ : i + 3 ≡ suc (suc (suc i)) = omega arith in
    e₄ ∙ ap₂ (λ (x : List ℕ) (k : ℕ). set x k d) (e₃ ∙ ap₂ (λ (x : List ℕ) (k : ℕ). set x k c) (e₂ ∙ ap₂ (λ (x : List ℕ) (k : ℕ). set x k b) e₁ p₁) p₂) p₃

-- clause m is supposed, or there is no room for it; and read back
pub supposing-some : (room : List ℕ) (m : ℕ) (x : Spot) → m < supposed_at_most → supposing room m x ≡ sets room (supposed_word m) (spot_words x)
unfolding supposing
supposing-some room m x h = rw (lt-ltb m supposed_at_most h) refl

pub supposing-none : (room : List ℕ) (m : ℕ) (x : Spot) → supposed_at_most ≤ m → supposing room m x ≡ room
unfolding supposing
supposing-none room m x h = rw (le-ltb m supposed_at_most h) refl

pub supposed-some : (room : List ℕ) (m : ℕ) → m < supposed_at_most → supposed_in room m ≡ spot_from room (supposed_word m)
unfolding supposed_in
supposed-some room m h = rw (lt-ltb m supposed_at_most h) refl

pub supposed-none : (room : List ℕ) (m : ℕ) → supposed_at_most ≤ m → supposed_in room m ≡ nowhere
unfolding supposed_in
supposed-none room m h = rw (le-ltb m supposed_at_most h) refl

-- a spot by its words
abbrev pub spot_of : Source → ℕ → ℕ → ℕ → Spot
spot_of s a b c = record { source = s; at = a; base = b; count = c }

pub spot-alike : {s t : Source} {a a' b b' c c' : ℕ} → s ≡ t → a ≡ a' → b ≡ b' → c ≡ c' → spot_of s a b c ≡ spot_of t a' b' c'
spot-alike e f g h = λ i. spot_of (e i) (f i) (g i) (h i)
