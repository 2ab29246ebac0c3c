use Rattle.equal.proofs.RestLaws.{LeftAt}
use lib.ListN.{length}
use Prim.Native.Nat.{◌+◌, ◌-◌, ◌*◌}
use Rattle.equal.proofs.equal.+same.Given as goal

abbrev pub decreases-same : goal.decreases-same
decreases-same l = 2 * l.nest

abbrev pub decreases-same_rest : goal.decreases-same_rest
decreases-same_rest l = 2 * l.nest + 1

abbrev pub invariant-same_rest-loop-s : goal.invariant-same_rest-loop-s
invariant-same_rest-loop-s l = LeftAt l.files l.room l.x l.y l.nest l.p l.q

abbrev pub decreases-same_rest-loop-s : goal.decreases-same_rest-loop-s
decreases-same_rest-loop-s l = length l.s - l.p
