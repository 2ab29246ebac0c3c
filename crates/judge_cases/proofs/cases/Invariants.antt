-- `cases` (src/main.rt): each case takes something of the file, so the loop ends.
use Rattle.std.proofs.Common.{length}
use Rattle.judge_cases.proofs.cases.Given as goal

abbrev pub invariant-loop-rest : goal.invariant-loop-rest
invariant-loop-rest g l = Unit {0}

abbrev pub decreases-loop-rest : goal.decreases-loop-rest
decreases-loop-rest g l = length l.rest
