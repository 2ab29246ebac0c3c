-- A rule of a table, proved at all of its entries by one test that antt computes, one entry after the other.
use mathlib.Core.Path.{◌≡◌, refl, subst}
use mathlib.Core.Bool.{Bool, true, false, false≢true}
use mathlib.Core.List.{List, [], ◌∷◌}
use Prim.Native.Nat.{ℕ, zero, suc, ◌+◌, ◌<◌}
use native.Mathlib.Omega.{arith}
use lib.ListN.{length, get_or}

-- the test f passes at each entry of the list and its place, counted from i
abbrev pub every : (ℕ → ℕ → Bool) → ℕ → List ℕ → Bool
every f i [] = true
every f i (x ∷ xs) = elim (f i x) [ true ↦ every f (i + 1) xs | false ↦ false ]

from : (f : ℕ → ℕ → Bool) (xs : List ℕ) (i : ℕ) → every f i xs ≡ true → (k : ℕ) → k < length xs → f (i + k) (get_or xs k 0) ≡ true
from f [] i t k h = absurd (omega arith)
from f (x ∷ xs) i t k h = go (f i x) refl t k h (λ q m g. from f xs (i + 1) q m g)
  where
    go : (b : Bool) → f i x ≡ b → elim b as (λ y. Bool) [ true ↦ every f (i + 1) xs | false ↦ false ] ≡ true → (k : ℕ) → k < length (x ∷ xs) → (every f (i + 1) xs ≡ true → (m : ℕ) → m < length xs → f (i + 1 + m) (get_or xs m 0) ≡ true) → f (i + k) (get_or (x ∷ xs) k 0) ≡ true
    go true e t zero h r = subst (λ (m : ℕ). f m x ≡ true) {x = i} {y = i + 0} (omega arith) e
    go true e t (suc k) h r = subst (λ (m : ℕ). f m (get_or xs k 0) ≡ true) {x = i + 1 + k} {y = i + suc k} (omega arith) (r t k (omega arith))
    go false e t k h r = absurd (false≢true t)

pub entry : (f : ℕ → ℕ → Bool) (xs : List ℕ) → every f 0 xs ≡ true → (k : ℕ) → k < length xs → f k (get_or xs k 0) ≡ true
entry f xs t k h = subst (λ (m : ℕ). f m (get_or xs k 0) ≡ true) {x = 0 + k} {y = k} (omega arith) (from f xs 0 t k h)
