-- `write` of src/request.rt: the first strip drawn with a short scratch buffer, and once more where it is longer.
use Rattle.propose.proofs.AnswerLaws.{drawn-again}
use borrow.Author.Rules.{rules}
use Rattle.propose.proofs.request.write.Goals as goal

pub returns-then-first-gt2048 : goal.returns-then-first-gt2048
returns-then-first-gt2048 c =
    let x = c.args in
    let m = c.measure-first in
    drawn-again x.height x.files.now x.room.now m.new.room _ m.new.scratch x.strip.now m.result m.ensures c.write_long.new.strip c.write_long.result c.write_long.ensures

pub returns : goal.returns
returns c =
    let x = c.args in
    let m = c.measure-first in
    c.hand_over.ensures x.height x.files.now x.room.now m.new.room _ m.auto.scratch m.ensures
