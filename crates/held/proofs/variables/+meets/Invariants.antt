use mathlib.Core.Bool.{true}
use lib.ListN.{length}
use Rattle.room.specs.Spot.{bindings_at}
use Rattle.mentions.specs.Open.{asked}
use Rattle.held.proofs.MeetLaws.{Meeting}
use Prim.Native.Nat.{◌+◌, ◌-◌, ◌*◌}
use Rattle.held.proofs.variables.+meets.Given as goal

abbrev pub decreases-meets : goal.decreases-meets
decreases-meets l = 2 * l.nest

abbrev pub decreases-meets_member : goal.decreases-meets_member
decreases-meets_member l = 2 * l.nest + 1

abbrev pub invariant-meets-loop-x : goal.invariant-meets-loop-x
invariant-meets-loop-x l = Meeting l.s l.at l.depth l.nest (asked l.own (bindings_at l.room l.x) l.also l.v) (asked l.own (bindings_at l.room l.x) true l.v) l.q l.d l.with

abbrev pub decreases-meets-loop-x : goal.decreases-meets-loop-x
decreases-meets-loop-x l = length l.s - l.q
