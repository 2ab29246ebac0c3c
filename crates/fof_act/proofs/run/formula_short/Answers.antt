-- `formula_short` of src/run.rt meets its contract. Assumes nothing.
use Rattle.fof_act.proofs.RunLaws.{runs-first, runs-next, formula-out, formula-wrong, formula-done}
use mathlib.Core.Path.{◌∙◌}
use mathlib.Core.Bool.{true}
use borrow.Author.Tests.{not-true, not-false}
use Rattle.fof_act.proofs.run.formula_short.Goals as goal

pub loop-n-init : goal.loop-n-init
loop-n-init c = let a = c.args in runs-first a.text.now c.push_short-top.new.stack a.names.now a.buf.now (record { ok = true; at = a.at; top = c.push_short-top.result; bound = 0; pen = a.pen }) 98400

pub shape_of-stack-then-left-eq0 : goal.shape_of-stack-then-left-eq0
shape_of-stack-then-left-eq0 c = c.loop-n.invariant.kept.stack ∙ c.push_short-top.ensures.long

pub shape_of-names-then-left-eq0 : goal.shape_of-names-then-left-eq0
shape_of-names-then-left-eq0 c = c.loop-n.invariant.kept.names

pub shape_of-buf-then-left-eq0 : goal.shape_of-buf-then-left-eq0
shape_of-buf-then-left-eq0 c = c.loop-n.invariant.kept.bytes

pub returns-then-left-eq0 : goal.returns-then-left-eq0
returns-then-left-eq0 c = formula-out c.args.sort c.push_short-top.ensures c.loop-n.invariant c.loop-n-test.true c.if-left-eq0.true c.stopped.ensures

pub shape_of-stack-then-not-n : goal.shape_of-stack-then-not-n
shape_of-stack-then-not-n c = c.loop-n.invariant.kept.stack ∙ c.push_short-top.ensures.long

pub shape_of-names-then-not-n : goal.shape_of-names-then-not-n
shape_of-names-then-not-n c = c.loop-n.invariant.kept.names

pub shape_of-buf-then-not-n : goal.shape_of-buf-then-not-n
shape_of-buf-then-not-n c = c.loop-n.invariant.kept.bytes

pub returns-then-not-n : goal.returns-then-not-n
returns-then-not-n c = formula-wrong c.args.sort c.push_short-top.ensures c.loop-n.invariant (not-true c.loop-n.n.ok c.if-not-n.true) c.stopped-then-not-n.ensures

pub loop-n-preserved : goal.loop-n-preserved
loop-n-preserved c = runs-next c.loop-n.invariant c.loop-n-test.true c.if-left-eq0.false (not-false c.loop-n.n.ok c.if-not-n.false) c.step-n.ensures

pub shape_of-stack : goal.shape_of-stack
shape_of-stack c = c.loop-n.invariant.kept.stack ∙ c.push_short-top.ensures.long

pub shape_of-names : goal.shape_of-names
shape_of-names c = c.loop-n.invariant.kept.names

pub shape_of-buf : goal.shape_of-buf
shape_of-buf c = c.loop-n.invariant.kept.bytes

pub returns : goal.returns
returns c = formula-done c.args.sort c.push_short-top.ensures c.loop-n.invariant c.loop-n-test.false
