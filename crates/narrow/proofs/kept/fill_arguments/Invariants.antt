use Rattle.narrow.specs.Kept.{ArgumentsDone}
use Rattle.narrow.proofs.kept.fill_arguments.Given as goal

abbrev pub invariant-loop-k : goal.invariant-loop-k
invariant-loop-k l = ArgumentsDone l.initial.room l.room l.rules l.terms l.k
