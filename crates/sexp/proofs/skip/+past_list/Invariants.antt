use Prim.Native.Nat.{◌-◌}
use lib.ListN.{length}
use Rattle.sexp.proofs.SkipLaws.{Going}
use Rattle.sexp.proofs.skip.+past_list.Given as goal

abbrev pub decreases-past_list : goal.decreases-past_list
decreases-past_list l = l.nest

abbrev pub invariant-loop-i : goal.invariant-loop-i
invariant-loop-i l = Going l.s l.at (l.nest - 1) l.i

abbrev pub decreases-loop-i : goal.decreases-loop-i
decreases-loop-i l = length l.s - l.i
