-- `around` of src/variables.rt meets its contract. Assumes nothing.
use Rattle.held.proofs.VariableLaws.{around-all, around-some, around-none}
use native.Mathlib.Omega.{arith}
use Rattle.held.proofs.variables.around.Goals as goal

pub returns-then-is_word : goal.returns-then-is_word
returns-then-is_word c = let x = c.args in
    around-all x.s.now x.at (omega arith) x.depth c.plus.ensures c.is_word.ensures c.if-is_word.true c.plus-then-is_word.ensures

pub returns-then-is_word-2 : goal.returns-then-is_word-2
returns-then-is_word-2 c = let x = c.args in
    around-some x.s.now x.at (omega arith) x.depth c.plus.ensures c.is_word.ensures c.if-is_word.false c.plus-2.ensures c.is_word-2.ensures c.if-is_word-2.true c.plus-then-is_word-2.ensures

pub returns : goal.returns
returns c = let x = c.args in
    around-none x.s.now x.at (omega arith) x.depth c.plus.ensures c.is_word.ensures c.if-is_word.false c.plus-2.ensures c.is_word-2.ensures c.if-is_word-2.false
