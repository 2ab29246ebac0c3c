-- A node is one higher than the highest of its parts: what that says of the parts within a height.
use Prim.Native.Nat.{ℕ, suc, ◌≤◌}
use mathlib.Core.List.{List, [], ◌∷◌}
use native.Mathlib.Omega.{arith}
use Rattle.harrop.specs.Formula.{Strip, height}
use Rattle.harrop.specs.Position.{parts}

-- every part is within a height
abbrev pub Low : ℕ → List Strip → Type 0
Low n [] = Unit {0}
Low n (P ∷ ps) = (height P ≤ n) × Low n ps

pub no-strip-within-0 : (P : Strip) → height P ≤ 0 → ⊥
no-strip-within-0 Strip.top l = omega arith
no-strip-within-0 (Strip.and P R) l = omega arith
no-strip-within-0 (Strip.left P) l = omega arith
no-strip-within-0 (Strip.right P) l = omega arith
no-strip-within-0 (Strip.some i P) l = omega arith
no-strip-within-0 (Strip.all P) l = omega arith
no-strip-within-0 (Strip.imp P) l = omega arith
no-strip-within-0 (Strip.use₀ k path) l = omega arith
no-strip-within-0 (Strip.use₁ k path P) l = omega arith

pub parts_within : {n : ℕ} (P : Strip) → height P ≤ suc n → Low n (parts P)
parts_within Strip.top l = tt
parts_within (Strip.and P R) l = (omega arith, (omega arith, tt))
parts_within (Strip.left P) l = (omega arith, tt)
parts_within (Strip.right P) l = (omega arith, tt)
parts_within (Strip.some i P) l = (omega arith, tt)
parts_within (Strip.all P) l = (omega arith, tt)
parts_within (Strip.imp P) l = (omega arith, tt)
parts_within (Strip.use₀ k path) l = tt
parts_within (Strip.use₁ k path P) l = (omega arith, tt)

pub within-parts : {n : ℕ} (P : Strip) → Low n (parts P) → height P ≤ suc n
within-parts Strip.top l = omega arith
within-parts (Strip.and P R) l = omega (arith, l.0, l.1.0)
within-parts (Strip.left P) l = omega (arith, l.0)
within-parts (Strip.right P) l = omega (arith, l.0)
within-parts (Strip.some i P) l = omega (arith, l.0)
within-parts (Strip.all P) l = omega (arith, l.0)
within-parts (Strip.imp P) l = omega (arith, l.0)
within-parts (Strip.use₀ k path) l = omega arith
within-parts (Strip.use₁ k path P) l = omega (arith, l.0)
