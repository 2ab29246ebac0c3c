-- `places::moves::further` meets its contract.
use borrow.Author.Rules.{rules}
use Rattle.places.proofs.moves.further.Goals as goal

pub returns : goal.returns
returns c = cc
