-- `top` of src/put.rt meets its contract. Assumes nothing.
use Rattle.drawing.proofs.DrawLaws.{draws-top}
use borrow.Author.Rules.{rules}
use Rattle.drawing.proofs.put.top.Goals as goal

pub returns : goal.returns
returns c = draws-top c.put-m.ensures c.nothing.ensures c.close.ensures
