-- `string` of src/ink.rt meets its contract. Assumes nothing.
use Rattle.fof_pass.proofs.InkLaws.{inks-string}
use Rattle.fof_pass.proofs.ink.string.Goals as goal

pub returns : goal.returns
returns c = inks-string c.args.pen c.args.word.now c.put_decimal-m.ensures c.put_byte-m.ensures c.put-at.ensures
