use Rattle.fof_part.specs.Due.{many_headed}
use Rattle.fof_pass.specs.Ink.{Inks}
use Rattle.fof_pass.proofs.ink.heads.Given as goal

abbrev pub invariant-loop : goal.invariant-loop
invariant-loop l = Inks (many_headed l.word l.counter) l.initial.p l.initial.buf l.buf l.p
