use lib.ListN.{take}
use Rattle.pen.specs.Laid.{Puts}
use Rattle.pen.proofs.put.Given as goal

abbrev pub invariant-loop-b : goal.invariant-loop-b
invariant-loop-b l = Puts l.at (take l.b-index l.word) l.initial.buf l.buf l.m
