-- `places::moves::within` meets its contract.
use borrow.Author.Rules.{rules}
use Rattle.places.proofs.moves.within.Goals as goal

pub returns : goal.returns
returns c = cc
