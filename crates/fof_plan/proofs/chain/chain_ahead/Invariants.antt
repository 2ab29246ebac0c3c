use Prim.Native.Nat.{◌-◌}
use lib.ListN.{length}
use Rattle.fof_plan.proofs.ChainLaws.{Passing}
use Rattle.fof_plan.proofs.chain.chain_ahead.Given as goal

abbrev pub invariant-loop-a : goal.invariant-loop-a
invariant-loop-a l = Passing l.text l.at l.i l.depth l.first l.number

abbrev pub decreases-loop-a : goal.decreases-loop-a
decreases-loop-a l = length l.text - l.i
