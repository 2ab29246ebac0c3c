-- `compare` of src/head.rt meets its contract. Assumes nothing.
use Rattle.unset.proofs.HeadLaws.{compare-open, compare_same, compare-never}
use Rattle.unset.proofs.head.compare.Goals as goal

pub returns-then-holds : goal.returns-then-holds
returns-then-holds c = let x = c.args in
    compare-open x.files.now x.room.now x.x x.y x.own

pub returns-then-same_terms : goal.returns-then-same_terms
returns-then-same_terms c = let x = c.args in
    compare_same x.files.now x.room.now x.x x.y x.own c.part-s.ensures.bytes c.holds.ensures c.if-holds.false c.same_terms.ensures c.if-same_terms.true

pub returns : goal.returns
returns c = let x = c.args in
    compare-never x.files.now x.room.now x.x x.y x.own c.part-s.ensures.bytes c.holds.ensures c.if-holds.false c.same_terms.ensures c.if-same_terms.false
