use Prim.Native.Nat.{◌-◌, ◌≤◌}
use Rattle.fof_truth.specs.Numbered.{Scope}
use Rattle.fof_pass.specs.Names.{Scoped}
use Rattle.fof_pass.proofs.NameLaws.{Left}
use Rattle.fof_pass.proofs.names.number_of.Given as goal

abbrev pub invariant-loop-i : goal.invariant-loop-i
invariant-loop-i l = (l.i ≤ l.bound) × ((sc : Scope) → Scoped l.text l.names l.bound sc → Left l.text l.names l.bound l.i l.x sc)

abbrev pub decreases-loop-i : goal.decreases-loop-i
decreases-loop-i l = l.bound - l.i
