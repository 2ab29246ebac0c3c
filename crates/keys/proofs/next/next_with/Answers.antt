-- `next_with` of src/next.rt meets its contract. Assumes nothing.
use Rattle.keys.proofs.NextLaws.{walk_start, walk-found, walk_end, walk-back, walk-next}
use Rattle.keys.proofs.next.next_with.Goals as goal

pub loop-r-init : goal.loop-r-init
loop-r-init c = let x = c.args in walk_start x.numbers x.links x.room.now x.x x.from x.n c.begin-r.result c.begin-r.ensures

pub returns-then-has_number : goal.returns-then-has_number
returns-then-has_number c = let x = c.args in let l = c.loop-r in walk-found x.numbers x.links x.room.now x.x x.from x.n l.r l.invariant c.loop-r-test.true c.has_number.ensures c.if-has_number.true

pub returns-then-next-r : goal.returns-then-next-r
returns-then-next-r c = let x = c.args in let l = c.loop-r in walk-back x.numbers x.links x.room.now x.x x.from x.n l.r l.invariant c.loop-r-test.true c.word-next.ensures c.if-next-r.true

pub loop-r-preserved : goal.loop-r-preserved
loop-r-preserved c = let x = c.args in let l = c.loop-r in walk-next x.numbers x.links x.room.now x.x x.from x.n l.r l.invariant c.loop-r-test.true c.has_number.ensures c.if-has_number.false c.word-next.ensures

pub returns : goal.returns
returns c = let x = c.args in let l = c.loop-r in walk_end x.numbers x.links x.room.now x.x x.from x.n l.r l.invariant c.loop-r-test.false
