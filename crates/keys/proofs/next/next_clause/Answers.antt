-- `next_clause` of src/next.rt meets its contract. Assumes nothing.
use Rattle.keys.proofs.NextLaws.{next_past, next-supposed, next-rule}
use Rattle.keys.proofs.next.next_clause.Goals as goal

pub returns-then-n-from : goal.returns-then-n-from
returns-then-n-from c = let x = c.args in next_past x.room.now x.of.predicate x.of.key x.from x.n c.if-n-from.true

pub returns-then-rules-from : goal.returns-then-rules-from
returns-then-rules-from c = let x = c.args in next-supposed x.room.now x.of.predicate x.of.key x.from x.n c.if-n-from.false

pub returns : goal.returns
returns c = let x = c.args in
    next-rule x.room.now x.of.predicate x.of.key x.from x.n c.next_with.result c.if-n-from.false c.word-rules.ensures c.if-rules-from.false c.lesser.ensures c.next_with-a.ensures c.next_with-b.ensures c.next_with.ensures
