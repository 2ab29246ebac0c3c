-- `variable_at` of src/beside.rt meets its contract. Assumes nothing.
use borrow.Author.Tests.{not-false}
use Rattle.unset.proofs.HeadLaws.{variable-is}
use Rattle.unset.proofs.beside.variable_at.Goals as goal

pub returns-then-not-is_word : goal.returns-then-not-is_word
returns-then-not-is_word c = λ t around S l few ok. tt

pub returns : goal.returns
returns c = let x = c.args in
    variable-is x.s.now x.at c.number.result c.plus.ensures c.is_word.ensures (not-false c.is_word.result c.if-not-is_word.false-raw) c.plus-2.ensures c.number.ensures
