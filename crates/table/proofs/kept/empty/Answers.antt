-- `empty` of src/kept.rt meets its contract. Assumes nothing.
use Rattle.table.proofs.ForgetLaws.{emptied-tested, emptied-passed}
use native.Mathlib.Omega.{arith}
use borrow.Author.Rules.{rules}
use Rattle.table.proofs.kept.empty.Goals as goal

pub returns-then-marks : goal.returns-then-marks
returns-then-marks c = let x = c.args in emptied-tested x.room.now x.at x.supposed c.word_after.ensures c.marks.ensures c.if-marks.true c.put_after.ensures

pub returns-else-marks : goal.returns-else-marks
returns-else-marks c = let x = c.args in emptied-passed x.room.now x.at x.supposed c.word_after.ensures c.marks.ensures c.if-marks.false
