-- `is_left_out` of src/tried.rt meets its contract. Assumes nothing.
use mathlib.Core.Bool.{false≢true}
use lib.ListN.{get_or}
use borrow.Author.Tests.{not-false, eqb-true}
use Rattle.narrowing.proofs.tried.is_left_out.Goals as goal

pub returns-then-not-narrowed : goal.returns-then-not-narrowed
returns-then-not-narrowed c = λ z. absurd (false≢true z)

pub returns-then-k-marks : goal.returns-then-k-marks
returns-then-k-marks c = λ z. (not-false c.args.narrowed c.if-not-narrowed.false-raw, eqb-true (get_or c.args.marks.now c.args.i 0) 0 z)

pub returns-else-k-marks : goal.returns-else-k-marks
returns-else-k-marks c = λ z. absurd (false≢true z)
