use Rattle.unset.proofs.HeadLaws.{LeftAt}
use lib.ListN.{length}
use Prim.Native.Nat.{◌-◌}
use Rattle.unset.proofs.head.may_be.Given as goal

abbrev pub invariant-loop-s : goal.invariant-loop-s
invariant-loop-s l = LeftAt l.files l.room l.x l.y l.s l.t l.p l.q

abbrev pub decreases-loop-s : goal.decreases-loop-s
decreases-loop-s l = length l.s - l.p
