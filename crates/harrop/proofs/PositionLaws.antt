-- File order is a total order on positions, and the root comes first.
use Prim.Native.Nat.{ℕ, ◌<◌}
use mathlib.Core.Path.{◌≡◌, refl}
use mathlib.Core.List.{[], ◌∷◌}
use native.Mathlib.Omega.{arith}
use Rattle.harrop.specs.Position.{Position, Before, node-first, earlier-part, same-part}
use Rattle.harrop.specs.Order.{Compared}
use Rattle.harrop.proofs.NumberLaws.{numbers-compared}

pub root-comes-first : {at at₁ : Position} → Before at at₁ → at₁ ≡ [] → ⊥
root-comes-first node-first e = let z : ◌≡◌ {A = ℕ} 0 1 = cc in omega arith
root-comes-first (earlier-part l) e = let z : ◌≡◌ {A = ℕ} 0 1 = cc in omega arith
root-comes-first (same-part b) e = let z : ◌≡◌ {A = ℕ} 0 1 = cc in omega arith

pub positions-compared : (at at₁ : Position) → Compared Before at at₁
positions-compared [] [] = Compared.same refl
positions-compared [] (j ∷ at₁) = Compared.before node-first
positions-compared (i ∷ at) [] = Compared.after node-first
positions-compared (i ∷ at) (j ∷ at₁) = go (numbers-compared i j) (positions-compared at at₁)
  where
    go : Compared ◌<◌ i j → Compared Before at at₁ → Compared Before (i ∷ at) (j ∷ at₁)
    go (Compared.before l) w = Compared.before (earlier-part l)
    go (Compared.after l) w = Compared.after (earlier-part l)
    go (Compared.same e) (Compared.before b) = rw e (Compared.before (same-part b))
    go (Compared.same e) (Compared.same q) = rw (e, q) (Compared.same refl)
    go (Compared.same e) (Compared.after b) = rw e (Compared.after (same-part b))

pub position-not-before-itself : {at at₁ : Position} → Before at at₁ → at ≡ at₁ → ⊥
position-not-before-itself node-first e = let z : ◌≡◌ {A = ℕ} 0 1 = cc in omega arith
position-not-before-itself (earlier-part {i = i} {j = j} l) e = let z : i ≡ j = cc in omega arith
position-not-before-itself (same-part {at = at} {at' = at₁} b) e = position-not-before-itself b (cc)

pub position-order-carries : {at at₁ at₂ : Position} → Before at at₁ → Before at₁ at₂ → Before at at₂
position-order-carries node-first (earlier-part l) = node-first
position-order-carries node-first (same-part b) = node-first
position-order-carries (earlier-part {i = i} l) (earlier-part {j = k} m) = earlier-part {i = i} {j = k} (omega arith)
position-order-carries (earlier-part l) (same-part b) = earlier-part l
position-order-carries (same-part b) (earlier-part l) = earlier-part l
position-order-carries (same-part b) (same-part d) = same-part (position-order-carries b d)
