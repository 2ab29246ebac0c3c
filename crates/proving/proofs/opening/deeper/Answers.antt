-- `deeper` of src/opening.rt meets its contract. Assumes nothing.
use Rattle.proving.proofs.opening.deeper.Goals as goal

pub returns : goal.returns
returns c = cc
