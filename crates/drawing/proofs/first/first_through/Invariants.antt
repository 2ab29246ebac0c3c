use mathlib.Core.Path.{◌≡◌}
use lib.ListN.{length}
use Rattle.drawing.proofs.FirstLaws as laws
use Rattle.drawing.proofs.first.first_through.Given as goal

abbrev pub invariant-loop-i : goal.invariant-loop-i
invariant-loop-i l = (length l.room ≡ length l.initial.room) × laws.ThroughLeft l.files l.initial.room l.w l.x l.nest l.left l.room l.i
