-- `begin` of src/ink.rt meets its contract. Assumes nothing.
use Rattle.fof_pass.proofs.InkLaws.{inks-begin, inks-deep}
use Rattle.fof_pass.proofs.ink.begin.Goals as goal

pub returns-then-pen-lt64 : goal.returns-then-pen-lt64
returns-then-pen-lt64 c = inks-begin c.args.pen c.if-pen-lt64.true c.put_byte-at.ensures

pub returns : goal.returns
returns c = inks-deep c.args.pen c.if-pen-lt64.false c.put_byte-at.ensures
