-- `named` of src/act.rt meets its contract. Assumes nothing.
use mathlib.Core.Bool.{false}
use mathlib.Core.Path.{refl}
use Rattle.fof_pass.specs.Ahead.{between}
use Rattle.fof_act.proofs.ActLaws.{named-not, named-is}
use Rattle.fof_act.proofs.act.named.Goals as goal

pub returns-then-not-is_name_of : goal.returns-then-not-is_name_of
returns-then-not-is_name_of c = let a = c.args in named-not a.word.now (between a.text.now a.a.start a.a.end) a.pen a.buf.now (record { ok = false; pen = a.pen }) c.cut-w.ensures c.is_name_of.ensures c.if-not-is_name_of.true-raw refl

pub returns : goal.returns
returns c = let a = c.args in named-is a.word.now (between a.text.now a.a.start a.a.end) c.cut-w.ensures c.is_name_of.ensures c.if-not-is_name_of.false-raw c.head-p.ensures c.string.ensures c.done.ensures
