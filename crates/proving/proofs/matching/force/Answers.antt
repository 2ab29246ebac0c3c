-- `force` of src/matching.rt meets its contract. Assumes nothing.
use borrow.Author.Tests.{not-true, not-false}
use Rattle.proving.proofs.SettleLaws.{variable-never, variable-barred, variable-set}
use Rattle.proving.proofs.matching.force.Goals as goal

pub returns-then-not-may_use : goal.returns-then-not-may_use
returns-then-not-may_use c = let x = c.args in
    variable-barred {f = x.files.now} {room = x.room.now} {w = x.w} {p = x.p} {y = x.y} x.v c.candidate_at.ensures c.in-Some.c c.in-Some.is c.may_use.ensures (not-true c.may_use.result c.if-not-may_use.true-raw)

pub returns-in-None : goal.returns-in-None
returns-in-None c = let x = c.args in
    variable-never {f = x.files.now} {room = x.room.now} {w = x.w} {p = x.p} {y = x.y} x.v c.candidate_at.ensures c.in-None.is

pub returns-else-not-may_use : goal.returns-else-not-may_use
returns-else-not-may_use c = let x = c.args in
    variable-set {f = x.files.now} {room = x.room.now} {w = x.w} {p = x.p} {y = x.y} x.v c.candidate_at.ensures c.in-Some.c c.in-Some.is c.may_use.ensures {after = c.push.new.room} (not-false c.may_use.result c.if-not-may_use.false-raw) c.word_of.ensures c.push.ensures
