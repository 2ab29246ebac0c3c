-- `number_at` of src/numbers.rt meets its contract. Assumes nothing.
use Rattle.arguments.proofs.NumberLaws.{number-open, number-variable, number-candidate, number-none}
use Rattle.arguments.proofs.numbers.number_at.Goals as goal

pub returns-then-is_variable : goal.returns-then-is_variable
returns-then-is_variable c = let x = c.args in
    number-variable x.files.now x.room.now x.x x.own x.v c.part-s.ensures.bytes c.is_variable.ensures c.if-is_variable.true

pub returns-then-holds : goal.returns-then-holds
returns-then-holds c = let x = c.args in
    number-open x.files.now x.room.now x.x x.own x.v

pub returns-in-None : goal.returns-in-None
returns-in-None c = let x = c.args in
    number-none x.files.now x.room.now x.x x.own x.v c.part-s.ensures.bytes c.holds.ensures c.if-holds.false c.candidate_at.ensures c.in-None.is

pub returns-then-c-lt1020 : goal.returns-then-c-lt1020
returns-then-c-lt1020 c = let x = c.args in
    number-candidate x.files.now x.room.now x.x x.own x.v c.part-s.ensures.bytes c.holds.ensures c.if-holds.false c.candidate_at.ensures c.in-Some.is c.if-c-lt1020.true

pub returns-else-c-lt1020 : goal.returns-else-c-lt1020
returns-else-c-lt1020 c = let x = c.args in
    number-open x.files.now x.room.now x.x x.own x.v
