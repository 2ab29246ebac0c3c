use Prim.Native.Nat.{◌-◌}
use lib.ListN.{length}
use Rattle.keys.proofs.AtomLaws.{RowLeft}
use Rattle.keys.proofs.atom.row_key.Given as goal

abbrev pub invariant-loop-k : goal.invariant-loop-k
invariant-loop-k l = RowLeft l.s l.at l.h l.p l.k

abbrev pub decreases-loop-k : goal.decreases-loop-k
decreases-loop-k l = length l.s - l.p
