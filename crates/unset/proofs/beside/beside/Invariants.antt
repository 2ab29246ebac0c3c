use Rattle.unset.proofs.HeadLaws.{PartsLeft}
use mathlib.Core.List.{List}
use mathlib.Core.Path.{◌≡◌}
use lib.ListN.{length, drop}
use Rattle.room.specs.declared.Spot.{Spot}
use Rattle.heads.specs.Predicate.{bytes_at}
use Prim.Native.Nat.{ℕ, ◌-◌}
use Rattle.unset.proofs.beside.beside.Given as goal

abbrev pub invariant-loop-s : goal.invariant-loop-s
invariant-loop-s l = (room : List ℕ) (y : Spot) → l.t ≡ drop y.at (bytes_at l.files y) → PartsLeft l.files room y l.s l.t l.p l.q

abbrev pub decreases-loop-s : goal.decreases-loop-s
decreases-loop-s l = length l.s - l.p
