-- `fill_chains` of src/chain.rt meets its contract. Assumes nothing.
use Rattle.keys.proofs.ChainLaws.{chains-filled}
use Rattle.keys.proofs.chain.fill_chains.Goals as goal

pub returns : goal.returns
returns c = let x = c.args in chains-filled x.numbers x.links x.n x.room.now c.clear_chains.new.room c.link_all.new.room c.clear_chains.ensures c.link_all.ensures
