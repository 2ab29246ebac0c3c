-- `Source::from` of src/file.rt meets its contract. Assumes nothing.
use Rattle.room.proofs.FileLaws.{number-1, number-2, number-3}
use native.Mathlib.Omega.{arith}
use Rattle.room.proofs.file.SourceFromU32.from.Goals as goal

pub returns-in-1 : goal.returns-in-1
returns-in-1 c = number-1 c.args.n c.in-1.is

pub returns-in-2 : goal.returns-in-2
returns-in-2 c = number-2 c.args.n (let e = c.in-2.is in omega (arith, e)) c.in-2.is

pub returns-in_default : goal.returns-in_default
returns-in_default c = number-3 c.args.n (omega (arith, c.in_default)) (omega (arith, c.in_default))
