use Rattle.sexp.specs.Number.{Digits}
use Rattle.sexp.proofs.decimal.number.Given as goal

abbrev pub invariant-loop-i : goal.invariant-loop-i
invariant-loop-i l = Digits l.s l.at l.v l.i
