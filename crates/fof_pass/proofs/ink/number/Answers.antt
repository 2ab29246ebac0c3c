-- `number` of src/ink.rt meets its contract. Assumes nothing.
use Rattle.fof_pass.proofs.InkLaws.{inks-number}
use Rattle.fof_pass.proofs.ink.number.Goals as goal

pub returns : goal.returns
returns c = inks-number c.args.pen c.args.i c.put_number-at.ensures
