-- `both_at` of src/atom.rt meets its contract: the walk of `row_key` and that of `keys_at` at once. Assumes nothing.
use borrow.Author.Tests.{not-true, not-false}
use Rattle.equal.proofs.RestLaws.{past-on}
use Rattle.keys.proofs.AtomLaws.{row-start, row-lost, row_next, row-end}
use Rattle.keys.proofs.WalkLaws.{keys-start, keys-lost, keys-next, keys-end}
use borrow.Author.Rules.{rules}
use Rattle.keys.proofs.atom.both_at.Goals as goal

pub loop-x-init : goal.loop-x-init
loop-x-init c = let x = c.args in (row-start x.s.now x.at x.h, keys-start x.s.now x.at x.room.now x.x x.h 64)

pub returns-in_default : goal.returns-in_default
returns-in_default c = let x = c.args in
    let l = c.loop-x in
    (row-lost x.s.now x.at x.h l.p l.predicate l.invariant.0 c.closes.ensures (not-true c.closes.result c.loop-x-test.true-raw) c.in_default.is c.past.ensures, keys-lost x.s.now x.at x.room.now x.x x.h 64 l.p l.key l.invariant.1 c.closes.ensures (not-true c.closes.result c.loop-x-test.true-raw) c.key_at.ensures c.in_default.is c.past.ensures)

pub loop-x-smaller : goal.loop-x-smaller
loop-x-smaller c = let x = c.args in
    let l = c.loop-x in
    let h = past-on x.s.now l.p 64 c.in-Some.is c.past.ensures in
    search rules

pub loop-x-preserved : goal.loop-x-preserved
loop-x-preserved c = let x = c.args in
    let l = c.loop-x in
    (row_next x.s.now x.at x.h l.p l.predicate l.invariant.0 c.closes.ensures (not-true c.closes.result c.loop-x-test.true-raw) c.mix-predicate.result c.mix-predicate.ensures c.in-Some.is c.past.ensures, keys-next x.s.now x.at x.room.now x.x x.h 64 l.p l.key l.invariant.1 c.closes.ensures (not-true c.closes.result c.loop-x-test.true-raw) c.key_at.ensures c.mix-key.result c.mix-key.ensures c.in-Some.is c.past.ensures)

pub returns : goal.returns
returns c = let x = c.args in
    let l = c.loop-x in
    (row-end x.s.now x.at x.h l.p l.predicate l.invariant.0 c.closes.ensures (not-false c.closes.result c.loop-x-test.false-raw), keys-end x.s.now x.at x.room.now x.x x.h 64 l.p l.key l.invariant.1 c.closes.ensures (not-false c.closes.result c.loop-x-test.false-raw))
