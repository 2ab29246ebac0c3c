-- `shut` of src/put.rt meets its contract. Assumes nothing.
use Rattle.drawing.proofs.DrawLaws.{rest-none}
use borrow.Author.Rules.{rules}
use Rattle.drawing.proofs.put.shut.Goals as goal

pub returns : goal.returns
returns c = rest-none c.put-m.ensures c.nothing.ensures
