-- `end` of src/ink.rt meets its contract. Assumes nothing.
use Rattle.fof_pass.proofs.InkLaws.{inks-end, inks-shallow}
use Rattle.fof_pass.proofs.ink.end.Goals as goal

pub returns-then-pen-eq0 : goal.returns-then-pen-eq0
returns-then-pen-eq0 c = inks-shallow c.args.pen c.if-pen-eq0.true c.put_byte-at.ensures

pub returns : goal.returns
returns c = inks-end c.args.pen c.put_byte-at.ensures
