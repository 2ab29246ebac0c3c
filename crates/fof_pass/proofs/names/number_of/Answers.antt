-- `number_of` of src/names.rt meets its contract. Assumes nothing.
use Rattle.fof_pass.proofs.NameLaws.{left-all, left-none, left-hit, left-miss}
use native.Mathlib.Omega.{arith}
use Rattle.fof_pass.proofs.names.number_of.Goals as goal

pub loop-i-init : goal.loop-i-init
loop-i-init c = (omega arith, λ sc h. left-all c.args.text.now c.args.names.now c.args.x.now c.args.bound sc h)

pub returns-then-same : goal.returns-then-same
returns-then-same c = let a = c.args in λ sc h. left-hit a.text.now a.names.now a.x.now a.bound c.loop-i.i c.entry.result c.sign_ahead-a.result c.loop-i-test.true c.entry.ensures c.sign_ahead-a.ensures c.cut.ensures sc c.if-same.true c.same.ensures (c.loop-i.invariant.1 sc h)

pub loop-i-preserved : goal.loop-i-preserved
loop-i-preserved c = let a = c.args in (omega arith, λ sc h. left-miss a.text.now a.names.now a.x.now a.bound c.loop-i.i c.entry.result c.sign_ahead-a.result c.loop-i-test.true c.entry.ensures c.sign_ahead-a.ensures c.cut.ensures sc c.if-same.false c.same.ensures (c.loop-i.invariant.1 sc h))

pub returns : goal.returns
returns c = let a = c.args in λ sc h. left-none a.text.now a.names.now a.x.now a.bound c.loop-i.i sc c.loop-i-test.false (c.loop-i.invariant.1 sc h)
