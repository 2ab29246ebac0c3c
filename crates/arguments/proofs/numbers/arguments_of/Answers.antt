-- `arguments_of` of src/numbers.rt meets its contract. Assumes nothing.
use Rattle.arguments.proofs.NumberLaws.{no_arguments, arguments-all}
use Rattle.arguments.proofs.numbers.arguments_of.Goals as goal

pub returns-in_default : goal.returns-in_default
returns-in_default c = let x = c.args in
    no_arguments x.files.now x.room.now x.x x.own x.v

pub returns : goal.returns
returns c = let x = c.args in
    arguments-all x.files.now x.room.now x.x x.own x.v c.arguments_from.result c.part.ensures.bytes c.past.ensures c.in-Some.is c.arguments_from.ensures c.unwrap_or.ensures
