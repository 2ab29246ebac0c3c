-- `is_parameter` of src/equal.rt meets its contract. Assumes nothing.
use Rattle.equal.proofs.SeeLaws.{no-parameter, unread-parameter, parameter-told}
use borrow.Author.Tests.{not-true, not-false}
use Rattle.equal.proofs.equal.is_parameter.Goals as goal

pub returns-then-not-is_word : goal.returns-then-not-is_word
returns-then-not-is_word c = let x = c.args in
    no-parameter x.files.now x.files.now.rules x.k c.part-s.ensures.bytes c.is_word.ensures (not-true c.is_word.result c.if-not-is_word.true-raw)

pub returns-in-None : goal.returns-in-None
returns-in-None c = let x = c.args in
    unread-parameter x.files.now x.files.now.rules x.k c.part-s.ensures.bytes c.is_word.ensures (not-false c.is_word.result c.if-not-is_word.false-raw) c.in-None.is c.number.ensures

pub returns-in-Some : goal.returns-in-Some
returns-in-Some c = let x = c.args in
    parameter-told x.files.now x.files.now.rules x.k c.part-s.ensures.bytes c.is_word.ensures (not-false c.is_word.result c.if-not-is_word.false-raw) c.in-Some.is c.number.ensures
