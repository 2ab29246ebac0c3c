use Rattle.fof_act.proofs.RunLaws.{Runs}
use Rattle.fof_act.proofs.run.formula_short.Given as goal

abbrev pub invariant-loop-n : goal.invariant-loop-n
invariant-loop-n l = Runs l.text l.initial.stack l.stack l.initial.names l.names l.initial.buf l.buf l.initial.n l.n l.initial.left l.left

abbrev pub decreases-loop-n : goal.decreases-loop-n
decreases-loop-n l = l.left
