-- `word_of` of src/plain.rt meets its contract. Assumes nothing.
use Rattle.proving.proofs.PlainLaws.{word-here, word-past}
use Rattle.proving.proofs.plain.word_of.Goals as goal

pub returns-then-v-x : goal.returns-then-v-x
returns-then-v-x c = let x = c.args in
    word-here x.x x.v c.plus.result c.if-v-x.true c.plus.ensures

pub returns : goal.returns
returns c = let x = c.args in
    word-past x.x x.v c.plus-2.result c.if-v-x.false c.plus-2.ensures
