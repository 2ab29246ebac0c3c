use Rattle.narrow.specs.Heads.{HeadsDone}
use Rattle.narrow.proofs.table.fill_heads.Given as goal

abbrev pub invariant-loop-k : goal.invariant-loop-k
invariant-loop-k l = HeadsDone l.initial.room l.room l.rules l.k
