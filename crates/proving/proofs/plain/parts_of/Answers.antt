-- `parts_of` of src/plain.rt meets its contract. Assumes nothing.
use Rattle.proving.proofs.PartsLaws.{parts_whole}
use Rattle.proving.proofs.plain.parts_of.Goals as goal

pub returns : goal.returns
returns c = parts_whole c.parts_from.ensures
