-- `begins` of src/term.rt meets its contract. Assumes nothing.
use Rattle.keys.proofs.WalkLaws.{begins-variable, begins-parameter, begins-lost, begins-rest}
use Rattle.keys.proofs.term.begins.Goals as goal

pub returns-then-is_word : goal.returns-then-is_word
returns-then-is_word c = let x = c.args in
    begins-variable x.t.now x.room.now x.x {r = c.is_word.result} c.is_word.ensures c.if-is_word.true c.variable_key.ensures

pub returns-then-is_word-2 : goal.returns-then-is_word-2
returns-then-is_word-2 c = let x = c.args in
    begins-parameter x.t.now x.room.now x.x {r = c.is_word.result} c.is_word.ensures c.if-is_word.false {q = c.is_word-2.result} c.is_word-2.ensures c.if-is_word-2.true c.parameter_key.ensures

pub returns-in-None : goal.returns-in-None
returns-in-None c = let x = c.args in
    begins-lost x.t.now x.room.now x.x {r = c.is_word.result} c.is_word.ensures c.if-is_word.false {q = c.is_word-2.result} c.is_word-2.ensures c.if-is_word-2.false c.in-None.is c.past.ensures

pub returns-in-Some : goal.returns-in-Some
returns-in-Some c = let x = c.args in
    begins-rest x.t.now x.room.now x.x {r = c.is_word.result} c.is_word.ensures c.if-is_word.false {q = c.is_word-2.result} c.is_word-2.ensures c.if-is_word-2.false c.in-Some.is c.past.ensures c.text_key.ensures
