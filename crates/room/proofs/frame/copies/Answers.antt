-- `copies` of src/frame.rt meets its contract. Assumes nothing.
use Rattle.room.proofs.FrameLaws.{not-below, not-inside, both-fit}
use native.Mathlib.Omega.{arith}
use Rattle.room.proofs.frame.copies.Goals as goal

pub returns-then-top-base : goal.returns-then-top-base
returns-then-top-base c = not-below c.args.base c.args.count c.args.top c.args.words (omega arith)

pub returns-then-top-base-2 : goal.returns-then-top-base-2
returns-then-top-base-2 c = not-below c.args.base c.args.count c.args.top c.args.words (omega arith)

pub returns-then-words-top : goal.returns-then-words-top
returns-then-words-top c = not-inside c.args.base c.args.count c.args.top c.args.words (omega arith) (omega arith)

pub returns : goal.returns
returns c = both-fit c.args.base c.args.count c.args.top c.args.words (omega arith) (omega arith)
