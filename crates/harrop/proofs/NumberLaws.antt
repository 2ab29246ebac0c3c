-- Two numbers, compared.
use Prim.Native.Nat.{ℕ, ◌<◌}
use mathlib.Core.Path.{◌≡◌, refl}
use mathlib.Core.Bool.{Bool, true, false}
use native.Mathlib.Omega.{arith}
use lib.Dec.{ltb}
use borrow.Author.Tests.{ltb-true, ltb-false}
use Rattle.harrop.specs.Order.{Compared}

pub numbers-compared : (i j : ℕ) → Compared ◌<◌ i j
numbers-compared i j = go (ltb i j) (ltb j i) refl refl
  where
    go : (a b : Bool) → ltb i j ≡ a → ltb j i ≡ b → Compared ◌<◌ i j
    go true b p q = Compared.before (ltb-true i j p)
    go false true p q = Compared.after (ltb-true j i q)
    go false false p q = Compared.same (omega (arith, ltb-false i j p, ltb-false j i q))
