-- `clause_parts` of src/plain.rt meets its contract. Assumes nothing.
use Rattle.proving.proofs.PartsLaws.{parts-kept}
use Rattle.proving.proofs.plain.clause_parts.Goals as goal

pub returns : goal.returns
returns c = let x = c.args in parts-kept x.room.now x.k c.word-n.ensures c.plus.ensures c.word-at.ensures c.parts_from.ensures
