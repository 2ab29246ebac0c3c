-- `head` of src/ink.rt meets its contract. Assumes nothing.
use Rattle.fof_pass.proofs.InkLaws.{inks-then}
use Rattle.fof_pass.proofs.ink.head.Goals as goal

pub returns : goal.returns
returns c = inks-then c.begin-p.ensures c.string.ensures
