-- `mix` of src/mix.rt meets its contract. Assumes nothing.
use Rattle.keys.specs.Key.{mix}
use borrow.Author.Rules.{rules}
use Rattle.keys.proofs.mix.mix.Goals as goal

pub returns : goal.returns
unfolding mix
returns c = search rules
