use Prim.Native.Nat.{◌+◌, ◌*◌}
use mathlib.Core.Path.{◌≡◌}
use lib.ListN.{length}
use Rattle.narrow.specs.Narrow.{More}
use Rattle.narrowing.proofs.TriedLaws as tried
use Rattle.narrowing.proofs.tried.+narrows.Given as goal

abbrev pub decreases-narrow_and : goal.decreases-narrow_and
decreases-narrow_and l = 10 * l.left + 9

abbrev pub decreases-narrow_atom : goal.decreases-narrow_atom
decreases-narrow_atom l = 10 * l.left + 8

abbrev pub decreases-narrow_clause : goal.decreases-narrow_clause
decreases-narrow_clause l = 10 * l.left + 7

abbrev pub decreases-narrow_goal : goal.decreases-narrow_goal
decreases-narrow_goal l = 10 * l.height + 5

abbrev pub decreases-narrow_rule : goal.decreases-narrow_rule
decreases-narrow_rule l = 10 * l.left + 6

abbrev pub invariant-narrow_atom-loop-k : goal.invariant-narrow_atom-loop-k
invariant-narrow_atom-loop-k l = (length l.room ≡ length l.initial.room) × (More l.initial.marks l.marks × tried.AtomLeft l.files l.initial.room l.w l.own l.v l.left l.marks l.room l.k)
