-- `mark` of src/marks.rt meets its contract. Assumes nothing.
use mathlib.Core.Path.{sym}
use lib.Seq.{set_out}
use Rattle.narrow.proofs.marks.mark.Goals as goal

pub returns-else-k-marks : goal.returns-else-k-marks
returns-else-k-marks c = sym (set_out c.args.marks.now c.args.i 1 c.if-k-marks.false)
