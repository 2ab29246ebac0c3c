-- `begins` of src/table.rt meets its contract. Assumes nothing.
use Rattle.start.proofs.HighLaws.{begins-parameter, begins-lost, begins-inside, begins-terms}
use native.Mathlib.Omega.{arith}
use borrow.Author.Rules.{rules}
use Rattle.start.proofs.table.begins.Goals as goal

pub returns-then-is_word : goal.returns-then-is_word
returns-then-is_word c = let x = c.args in
    begins-parameter x.s.now x.at c.from-t.ensures c.number_after.result {r = c.is_word.result} c.is_word.ensures c.if-is_word.true c.number_after.ensures

pub overflow_add-result : goal.overflow_add-result
overflow_add-result c = let x = c.args in
    let h = begins-inside x.s.now x.at c.from-t.ensures c.in-Some.is c.past.ensures in
    search rules

pub returns-in-None : goal.returns-in-None
returns-in-None c = let x = c.args in
    begins-lost x.s.now x.at c.from-t.ensures {r = c.is_word.result} c.is_word.ensures c.if-is_word.false c.in-None.is c.past.ensures

pub returns-in-Some : goal.returns-in-Some
returns-in-Some c = let x = c.args in
    begins-terms x.s.now x.at c.from-t.ensures {r = c.is_word.result} c.is_word.ensures c.if-is_word.false c.in-Some.is c.past.ensures
