-- `chain_of` of src/plain.rt meets its contract. Assumes nothing.
use Rattle.proving.proofs.ChainLaws.{chain-no-nest, chain-end, chain_more}
use Rattle.proving.proofs.plain.+chain_of.Goals as goal

pub returns-then-nest-eq0 : goal.returns-then-nest-eq0
returns-then-nest-eq0 t c = chain-no-nest c.if-nest-eq0.true c.inside.ensures

pub returns-in-Some : goal.returns-in-Some
returns-in-Some t c = chain_more c.word_there.result c.if-nest-eq0.false c.word_there.ensures c.in-Some.is c.deeper.ensures c.plus.ensures c.chain_of.ensures

pub returns-in_default : goal.returns-in_default
returns-in_default t c = chain-end c.word_there.result c.word_there.ensures c.in_default.not-Some c.inside-in_default.ensures
