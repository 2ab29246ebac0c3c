-- `variable` of src/act.rt meets its contract. Assumes nothing.
use mathlib.Core.Bool.{false}
use mathlib.Core.Path.{refl}
use Rattle.fof_pass.specs.Ahead.{between}
use Rattle.fof_act.proofs.ActLaws.{variable-free, variable-bound}
use Rattle.fof_act.proofs.act.variable.Goals as goal

pub returns-in-None : goal.returns-in-None
returns-in-None c = let a = c.args in λ sc h. variable-free sc (between a.text.now a.a.start a.a.end) c.number_of.result a.pen a.buf.now (record { ok = false; pen = a.pen }) c.cut.ensures (c.number_of.ensures sc h) c.in-None.is refl

pub returns-in-Some : goal.returns-in-Some
returns-in-Some c = let a = c.args in λ sc h. variable-bound sc (between a.text.now a.a.start a.a.end) c.in-Some.i c.number_of.result c.cut.ensures (c.number_of.ensures sc h) c.in-Some.is c.head-p.ensures c.number-p.ensures c.end.ensures c.done.ensures
