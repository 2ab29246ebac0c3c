-- `put` of src/lib.rt meets its contract. Assumes nothing.
use mathlib.Core.Path.{ap, ◌∙◌}
use lib.ListN.{length, take}
use Rattle.pen.proofs.LaidLaws.{puts_none, puts-more, puts-all, laid-length}
use native.Mathlib.Omega.{arith}
use borrow.Author.Rules.{rules}
use Rattle.pen.proofs.put.Goals as goal

pub loop-b-init : goal.loop-b-init
loop-b-init c = puts_none (omega (arith, c.ranges))

pub loop-b-preserved : goal.loop-b-preserved
loop-b-preserved c = puts-more c.args.word.now c.loop-b.b-index c.loop-b-test.true c.loop-b.invariant c.put_byte-m.ensures

pub shape_of-buf : goal.shape_of-buf
shape_of-buf c = let l = c.loop-b in ap length l.invariant.bytes ∙ laid-length c.args.at (take l.b-index c.args.word.now) c.args.buf.now

pub returns : goal.returns
returns c = puts-all c.args.word.now c.loop-b.b-index c.loop-b-test.false c.loop-b.invariant
