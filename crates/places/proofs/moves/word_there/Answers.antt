-- `places::moves::word_there` meets its contract.
use borrow.Author.Rules.{rules}
use Rattle.places.proofs.moves.word_there.Goals as goal

pub returns : goal.returns
returns c = rw c.part.ensures.bytes at c.word_at.ensures
