-- `measured` of src/lib.rt: a first reading, into buffers of one byte.
use Rattle.tptp.proofs.PartsLaws.{pass-measures}
use borrow.Author.Rules.{rules}
use Rattle.tptp.proofs.measured.Goals as goal

pub returns : goal.returns
returns c = pass-measures c.pass.ensures
