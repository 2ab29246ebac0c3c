use Rattle.proving.specs.Filling.{Unsets}
use Rattle.proving.proofs.plain.unset_all.Given as goal

abbrev pub invariant-loop-v : goal.invariant-loop-v
invariant-loop-v l = Unsets l.initial.room l.room l.x l.v
