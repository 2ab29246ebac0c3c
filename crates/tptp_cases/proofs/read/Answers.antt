-- `read` (src/main.rt): the two files that are written lie inside their buffers.
use mathlib.Core.Path.{sym}
use lib.Seq.{length-take-le}
use Rattle.tptp.proofs.TrueLaws.{written-inside}
use native.Mathlib.Omega.{arith}
use Rattle.tptp_cases.proofs.read.Goals as goal

pub slice_bounds-written-end : goal.slice_bounds-written-end
slice_bounds-written-end g c = let k = c.tptp in let l = written-inside k.ensures c.in-Ok.field-0.rules c.in-Ok.field-0.goal c.in-Ok.is in let q = k.auto.rules in omega (arith, l.0)

pub slice_bounds-written-end-in-Ok : goal.slice_bounds-written-end-in-Ok
slice_bounds-written-end-in-Ok g c = let k = c.tptp in let l = written-inside k.ensures c.in-Ok.field-0.rules c.in-Ok.field-0.goal c.in-Ok.is in let q = k.auto.rules in sym (length-take-le c.in-Ok.field-0.rules k.new.rules (omega (arith, l.0)))

pub slice_bounds-written-end-in-Ok-2 : goal.slice_bounds-written-end-in-Ok-2
slice_bounds-written-end-in-Ok-2 g c = let k = c.tptp in let l = written-inside k.ensures c.in-Ok.field-0.rules c.in-Ok.field-0.goal c.in-Ok.is in let q = k.auto.goal in omega (arith, l.1)

pub slice_bounds-written-end-in-Ok-3 : goal.slice_bounds-written-end-in-Ok-3
slice_bounds-written-end-in-Ok-3 g c = let k = c.tptp in let l = written-inside k.ensures c.in-Ok.field-0.rules c.in-Ok.field-0.goal c.in-Ok.is in let q = k.auto.goal in sym (length-take-le c.in-Ok.field-0.goal k.new.goal (omega (arith, l.1)))
