use Prim.Native.Nat.{◌-◌}
use lib.ListN.{length}
use Rattle.keys.proofs.AtomLaws.{RowLeft}
use Rattle.keys.proofs.WalkLaws.{KeysLeft}
use Rattle.keys.proofs.atom.both_at.Given as goal

abbrev pub invariant-loop-x : goal.invariant-loop-x
invariant-loop-x l = RowLeft l.s l.at l.h l.p l.predicate × KeysLeft l.s l.at l.room l.x l.h 64 l.p l.key

abbrev pub decreases-loop-x : goal.decreases-loop-x
decreases-loop-x l = length l.s - l.p
