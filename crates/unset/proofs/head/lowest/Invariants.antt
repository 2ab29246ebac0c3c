use Prim.Native.Nat.{◌-◌}
use Rattle.unset.proofs.CandidateLaws.{NoneBelow}
use Rattle.unset.proofs.head.lowest.Given as goal

abbrev pub invariant-loop-i : goal.invariant-loop-i
invariant-loop-i l = NoneBelow l.files l.room l.y l.key l.n l.i

abbrev pub decreases-loop-i : goal.decreases-loop-i
decreases-loop-i l = l.n - l.i
