-- `chain_of` of src/chain.rt meets its contract. Assumes nothing.
use Rattle.keys.specs.Chains.{chain_of}
use borrow.Author.Rules.{rules}
use Rattle.keys.proofs.chain.chain_of.Goals as goal

pub returns : goal.returns
unfolding chain_of
returns c = search rules
