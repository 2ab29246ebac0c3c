-- `places::moves::supposes` meets its contract.
use borrow.Author.Rules.{rules}
use Rattle.places.proofs.moves.supposes.Goals as goal

pub returns : goal.returns
returns c = cc
