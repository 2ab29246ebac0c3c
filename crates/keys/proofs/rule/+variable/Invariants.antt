use lib.ListN.{length}
use Rattle.keys.proofs.RuleLaws.{HaveLeft}
use Prim.Native.Nat.{◌+◌, ◌-◌, ◌*◌}
use Rattle.keys.proofs.rule.+variable.Given as goal

abbrev pub decreases-has_variable : goal.decreases-has_variable
decreases-has_variable l = 2 * l.nest

abbrev pub decreases-have_variable : goal.decreases-have_variable
decreases-have_variable l = 2 * l.nest + 1

abbrev pub invariant-have_variable-loop-at : goal.invariant-have_variable-loop-at
invariant-have_variable-loop-at l = HaveLeft l.s l.at l.nest l.p

abbrev pub decreases-have_variable-loop-at : goal.decreases-have_variable-loop-at
decreases-have_variable-loop-at l = length l.s - l.p
