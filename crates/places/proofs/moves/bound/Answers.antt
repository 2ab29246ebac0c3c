-- `places::moves::bound` meets its contract.
use borrow.Author.Rules.{rules}
use Rattle.places.proofs.moves.bound.Goals as goal

pub returns : goal.returns
returns c = cc
