-- `more` of src/mix.rt meets its contract. Assumes nothing.
use Rattle.keys.specs.Key.{more}
use borrow.Author.Rules.{rules}
use Rattle.keys.proofs.mix.more.Goals as goal

pub returns : goal.returns
unfolding more
returns c = search rules
