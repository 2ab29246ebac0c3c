-- `act` of src/wide.rt meets its contract. Assumes nothing.
use mathlib.Core.Path.{refl}
use mathlib.Core.Bool.{false}
use borrow.Author.Tests.{not-true, not-false}
use Rattle.fof_act.proofs.ActLaws.{act-not, act-done}
use Rattle.fof_act.proofs.wide.act.Goals as goal

pub returns-then-not-p : goal.returns-then-not-p
returns-then-not-p c = let a = c.args in act-not a.text.now a.stack.now a.names.now a.buf.now a.n a.a a.p (record { ok = false; at = a.n.at; top = a.n.top; bound = a.n.bound; pen = a.n.pen }) (not-true a.p.ok c.if-not-p.true) refl

pub returns : goal.returns
returns c = let a = c.args in act-done a.text.now a.stack.now c.pushed-top.new.stack a.names.now c.bind-bound.new.names a.buf.now c.write-w.new.buf a.n a.a a.p (not-false a.p.ok c.if-not-p.false) c.write-w.ensures c.bind-bound.ensures c.pushed-top.ensures c.place-at.ensures
