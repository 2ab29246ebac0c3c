use Prim.Native.Nat.{◌-◌}
use Rattle.keys.proofs.NextLaws.{Walked}
use Rattle.keys.proofs.next.next_with.Given as goal

abbrev pub invariant-loop-r : goal.invariant-loop-r
invariant-loop-r l = Walked l.numbers l.links l.room l.x l.from l.n l.r

abbrev pub decreases-loop-r : goal.decreases-loop-r
decreases-loop-r l = l.n - l.r
