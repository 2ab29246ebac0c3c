-- `row_key` of src/atom.rt meets its contract. Assumes nothing.
use borrow.Author.Tests.{not-true, not-false}
use Rattle.equal.proofs.RestLaws.{past-on}
use Rattle.keys.proofs.AtomLaws.{row-start, row-lost, row_next, row-end}
use borrow.Author.Rules.{rules}
use Rattle.keys.proofs.atom.row_key.Goals as goal

pub loop-k-init : goal.loop-k-init
loop-k-init c = let x = c.args in row-start x.s.now x.at x.h

pub returns-in_default : goal.returns-in_default
returns-in_default c = let x = c.args in
    let l = c.loop-k in
    row-lost x.s.now x.at x.h l.p l.k l.invariant c.closes.ensures (not-true c.closes.result c.loop-k-test.true-raw) c.in_default.is c.past.ensures

pub loop-k-smaller : goal.loop-k-smaller
loop-k-smaller c = let x = c.args in
    let l = c.loop-k in
    let h = past-on x.s.now l.p 64 c.in-Some.is c.past.ensures in
    search rules

pub loop-k-preserved : goal.loop-k-preserved
loop-k-preserved c = let x = c.args in
    let l = c.loop-k in
    row_next x.s.now x.at x.h l.p l.k l.invariant c.closes.ensures (not-true c.closes.result c.loop-k-test.true-raw) c.mix-k.result c.mix-k.ensures c.in-Some.is c.past.ensures

pub returns : goal.returns
returns c = let x = c.args in
    let l = c.loop-k in
    row-end x.s.now x.at x.h l.p l.k l.invariant c.closes.ensures (not-false c.closes.result c.loop-k-test.false-raw)
