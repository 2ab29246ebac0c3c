-- `body` of src/line.rt meets its contract. Assumes nothing.
use Rattle.fof_lines.proofs.LineLaws.{body-none, body_open, body-undotted, body-read}
use Rattle.fof_pass.specs.Dues.{sort_is}
use Rattle.fof_part.specs.Due.{formula_at}
use borrow.Author.Tests.{not-true, not-false}
use mathlib.Core.Path.{refl}
use mathlib.Core.Bool.{true}
use Rattle.fof_lines.proofs.line.body.Goals as goal

pub returns-then-not-n : goal.returns-then-not-n
returns-then-not-n c = let x = c.args in let n = c.formula_short-n.result in let e = c.formula_short-n.ensures in record { kept = e.kept; does = λ l m ss s. body-none x.text.now x.buf.now c.formula_short-n.new.buf x.pen n n (formula_at (sort_is x.sort) ss) (not-true _ c.if-not-n.true) (e.does l m ss s) }

pub returns-in_default : goal.returns-in_default
returns-in_default c = let x = c.args in let n = c.formula_short-n.result in let e = c.formula_short-n.ensures in record { kept = e.kept; does = λ l m ss s. body_open x.text.now x.buf.now c.formula_short-n.new.buf x.pen n c.stopped.result c.take.result c.take.ensures (formula_at (sort_is x.sort) ss) (not-false _ c.if-not-n.false) c.in_default.is c.stopped.ensures (e.does l m ss s) }

pub returns-in_default-take : goal.returns-in_default-take
returns-in_default-take c = let x = c.args in let n = c.formula_short-n.result in let e = c.formula_short-n.ensures in record { kept = e.kept; does = λ l m ss s. body-undotted x.text.now x.buf.now c.formula_short-n.new.buf x.pen n c.stopped-in_default-take.result c.take.result c.take.ensures c.in-Some.m c.in-Some.is c.take-2.result c.take-2.ensures (formula_at (sort_is x.sort) ss) (not-false _ c.if-not-n.false) c.in_default-take.is c.stopped-in_default-take.ensures (e.does l m ss s) }

pub returns : goal.returns
returns c = let x = c.args in let n = c.formula_short-n.result in let e = c.formula_short-n.ensures in record { kept = e.kept; does = λ l m ss s. body-read x.text.now x.buf.now c.formula_short-n.new.buf x.pen n (record { ok = true; at = c.in-Some-take.m; top = n.top; bound = n.bound; pen = n.pen }) c.take.result c.take.ensures c.in-Some.m c.in-Some.is c.take-2.result c.take-2.ensures (formula_at (sort_is x.sort) ss) (not-false _ c.if-not-n.false) c.in-Some-take.m c.in-Some-take.is refl refl refl (e.does l m ss s) }
