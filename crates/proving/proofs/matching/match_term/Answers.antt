-- `match_term` of src/matching.rt meets its contract. Assumes nothing.
use Rattle.proving.proofs.SettleLaws.{match-variable, match-compared}
use Rattle.proving.proofs.matching.match_term.Goals as goal

pub shape_of-room-in-Some : goal.shape_of-room-in-Some
shape_of-room-in-Some c = c.force.auto.room

pub returns-in-Some : goal.returns-in-Some
returns-in-Some c = let x = c.args in
    match-variable {f = x.files.now} {room = x.room.now} {w = x.w} {p = x.p} {x = x.x} {y = x.y} {after = c.force.new.room} c.open_at.ensures c.in-Some.is c.force.ensures

pub returns-in-None : goal.returns-in-None
returns-in-None c = let x = c.args in
    match-compared {f = x.files.now} {room = x.room.now} {w = x.w} {p = x.p} {x = x.x} {y = x.y} c.compare.result c.compare.ensures
