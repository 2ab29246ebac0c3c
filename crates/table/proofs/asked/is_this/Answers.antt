-- `is_this` of src/asked.rt meets its contract. Assumes nothing.
use borrow.Author.Tests.{not-false}
use mathlib.Core.Bool.{false≢true}
use lib.ListN.{length}
use Rattle.table.proofs.SlotLaws.{inside-bounds}
use Rattle.table.proofs.GoodLaws.{this-is}
use native.Mathlib.Omega.{arith}
use borrow.Author.Rules.{rules}
use Rattle.table.proofs.asked.is_this.Goals as goal

pub returns-then-not-inside : goal.returns-then-not-inside
returns-then-not-inside c = λ e. absurd (false≢true e)

pub returns-then-not-marks : goal.returns-then-not-marks
returns-then-not-marks c = λ e. absurd (false≢true e)

pub returns-then-word_after-w : goal.returns-then-word_after-w
returns-then-word_after-w c = λ e. absurd (false≢true e)

pub returns : goal.returns
returns c = let x = c.args in
    this-is x.files.now x.room.now x.w x.at (inside-bounds c.inside.result (length x.room.now) x.at c.inside.ensures (not-false _ c.if-not-inside.false-raw)) c.word_after.ensures c.marks.ensures (not-false _ c.if-not-marks.false-raw) c.word_after-2.ensures c.if-word_after-w.false c.spot-x.ensures c.same_atoms.ensures
