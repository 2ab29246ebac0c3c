-- `body_place` of src/plain.rt meets its contract. Assumes nothing.
use Rattle.proving.proofs.plain.body_place.Goals as goal

pub returns : goal.returns
returns c = cc
