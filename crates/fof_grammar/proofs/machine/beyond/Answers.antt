use native.Mathlib.Omega.{arith}
use mathlib.Core.Path.{refl, ◌∙◌}
use Rattle.fof_grammar.proofs.AheadLaws.{skips, stops, over}
use Rattle.fof_grammar.proofs.machine.beyond.Goals as goal

pub loop-i-init : goal.loop-i-init
loop-i-init c = λ w e. refl

pub returns-then-c-ne13 : goal.returns-then-c-ne13
returns-then-c-ne13 c = λ w e. let (l, q) = stops c.args.codes.now w c.loop-i.i e c.loop-i-test.true c.if-c-ne13.true in (l, c.loop-i.invariant w e ∙ q)

pub loop-i-preserved : goal.loop-i-preserved
loop-i-preserved c = λ w e. c.loop-i.invariant w e ∙ skips c.args.codes.now w c.loop-i.i e c.loop-i-test.true c.if-c-ne13.false

pub returns : goal.returns
returns c = λ w e. let (l, q) = over c.args.codes.now w c.loop-i.i e c.loop-i-test.false in (l, c.loop-i.invariant w e ∙ q)
