use Prim.Native.Nat.{◌-◌, ◌≤◌}
use Rattle.keys.specs.Keys.{RulesDone}
use Rattle.keys.proofs.table.keep_rules.Given as goal

abbrev pub invariant-loop-i : goal.invariant-loop-i
invariant-loop-i l = RulesDone l.initial.room l.room l.rules l.i
