-- `has_number` of src/next.rt meets its contract. Assumes nothing.
use Rattle.keys.proofs.NextLaws.{number-before, number-tested}
use Rattle.keys.proofs.next.has_number.Goals as goal

pub returns-then-r-from : goal.returns-then-r-from
returns-then-r-from c = let x = c.args in number-before x.numbers x.room.now x.x x.from x.r c.if-r-from.true

pub returns : goal.returns
returns c = let x = c.args in number-tested x.numbers x.room.now x.x x.from x.r c.if-r-from.false c.word.ensures
