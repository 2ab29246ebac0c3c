-- `places::moves::past_part` meets its contract.
use borrow.Author.Rules.{rules}
use Rattle.places.proofs.moves.past_part.Goals as goal

pub returns : goal.returns
returns c = rw c.part.ensures.bytes at c.past.ensures
