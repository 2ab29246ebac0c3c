use native.Mathlib.Omega.{arith}
use mathlib.Core.Path.{refl, ◌∙◌}
use lib.ListN.{length-set}
use Rattle.fof_grammar.proofs.StackLaws.{put_first, put-more, put_all}
use Rattle.fof_grammar.proofs.machine.push.Goals as goal

pub loop-i-init : goal.loop-i-init
loop-i-init c = (omega arith, refl, put_first c.args.stack.now c.args.top c.args.k)

pub loop-i-preserved : goal.loop-i-preserved
loop-i-preserved c = let h = c.loop-i-test.true in let e = c.width-n.ensures in let l = c.loop-i.invariant.1 in let p = c.requires.1 in (omega arith, length-set c.loop-i.stack _ _ ∙ l, put-more c.args.stack.now c.loop-i.stack c.args.top c.args.k c.loop-i.i c.symbol.result (omega arith) (omega arith) c.symbol.ensures c.loop-i.invariant.2)

pub returns : goal.returns
returns c = let h = c.loop-i-test.false in let l = c.loop-i.invariant.0 in put_all c.args.stack.now c.loop-i.stack c.args.top c.args.k c.loop-i.i c.width-n.result c.width-n.ensures (omega arith) c.loop-i.invariant.2
