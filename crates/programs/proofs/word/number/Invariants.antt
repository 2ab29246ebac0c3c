use Rattle.programs.proofs.SaidLaws.{Reading}
use Rattle.programs.proofs.word.number.Given as goal

abbrev pub invariant-loop-b : goal.invariant-loop-b
invariant-loop-b l = Reading l.w l.v l.b-index
