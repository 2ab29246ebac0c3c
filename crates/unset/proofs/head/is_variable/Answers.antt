-- `is_variable` of src/head.rt meets its contract. Assumes nothing.
use borrow.Author.Tests.{not-true, not-false}
use Rattle.unset.proofs.HeadLaws.{variable-none, variable-same}
use Rattle.unset.proofs.head.is_variable.Goals as goal

pub returns-then-not-is_word : goal.returns-then-not-is_word
returns-then-not-is_word c = let x = c.args in
    variable-none x.s.now x.at x.v c.plus.ensures c.is_word.ensures (not-true c.is_word.result c.if-not-is_word.true-raw)

pub returns : goal.returns
returns c = let x = c.args in
    variable-same x.s.now x.at x.v c.number.result c.plus.ensures c.is_word.ensures (not-false c.is_word.result c.if-not-is_word.false-raw) c.plus-2.ensures c.number.ensures c.eq.ensures
