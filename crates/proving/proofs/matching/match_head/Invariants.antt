use Prim.Native.Nat.{◌-◌}
use mathlib.Core.Path.{◌≡◌}
use lib.ListN.{length}
use Rattle.unset.proofs.HeadLaws.{LeftAt}
use Rattle.proving.proofs.SettleLaws.{SettledTo}
use Rattle.proving.proofs.matching.match_head.Given as goal

abbrev pub invariant-loop-s : goal.invariant-loop-s
invariant-loop-s l = (length l.room ≡ length l.initial.room) × LeftAt l.files l.initial.room l.p.head l.w.goal l.s l.t l.i l.j × SettledTo l.files l.initial.room l.room l.w l.p l.s l.t l.i l.j l.sure

abbrev pub decreases-loop-s : goal.decreases-loop-s
decreases-loop-s l = length l.s - l.i
