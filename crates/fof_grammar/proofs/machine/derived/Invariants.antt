use Prim.Native.Nat.{◌+◌, ◌-◌, ◌*◌}
use mathlib.Core.Path.{◌≡◌}
use lib.ListN.{length}
use Rattle.fof_grammar.proofs.Running.{Running, due_at}
use Rattle.fof_grammar.proofs.machine.derived.Given as goal

abbrev pub invariant-loop-top : goal.invariant-loop-top
invariant-loop-top l = (length l.stack ≡ length l.initial.stack) × Running l.codes l.stack l.top l.at

abbrev pub decreases-loop-top : goal.decreases-loop-top
decreases-loop-top l = due_at l.stack l.top + 12 * (length l.codes - l.at)
