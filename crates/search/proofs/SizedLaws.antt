-- The size that was given is at most 16,384.
use Prim.Native.Nat.{ℕ, ◌≤◌}
use mathlib.Core.Path.{◌≡◌, subst}
use Rattle.std.specs.Prelude.{Option, Some}
use Rattle.search.specs.Sized.{Sized}

pub sized-is : {v : Option ℕ} {n : ℕ} → v ≡ Some n → Sized v → n ≤ 16384
sized-is e s = subst (λ (v : Option ℕ). Sized v) e s
