-- `write_long` of src/request.rt: the first strip drawn with as many bytes as a strip may have.
use Rattle.propose.proofs.AnswerLaws.{longer-than-any}
use borrow.Author.Rules.{rules}
use Rattle.propose.proofs.request.write_long.Goals as goal

pub returns-then-first-gt16384 : goal.returns-then-first-gt16384
returns-then-first-gt16384 c =
    let x = c.args in
    let m = c.measure-first in
    longer-than-any x.height x.files.now x.room.now m.new.room _ m.new.scratch x.strip.now m.result m.ensures c.too_long.result c.if-first-gt16384.true c.too_long.ensures

pub returns : goal.returns
returns c =
    let x = c.args in
    let m = c.measure-first in
    c.hand_over.ensures x.height x.files.now x.room.now m.new.room _ m.auto.scratch m.ensures
