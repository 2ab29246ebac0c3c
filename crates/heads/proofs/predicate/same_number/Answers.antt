-- `same_number` of src/predicate.rt meets its contract. Assumes nothing.
use Prim.Native.Nat.{◌-◌}
use lib.ListN.{length}
use borrow.Author.Tests.{not-true, not-false}
use Rattle.equal.proofs.RestLaws.{past-on}
use Rattle.heads.proofs.PredicateLaws.{LeftAt, left-start, left-short, left-lost, left-lost-too, left-next, left_end}
use native.Mathlib.Omega.{arith}
use borrow.Author.Rules.{rules}
use Rattle.heads.proofs.predicate.same_number.Goals as goal

pub loop-i-init : goal.loop-i-init
loop-i-init c = let x = c.args in
    left-start x.s.now x.t.now x.i x.j

pub returns-then-closes : goal.returns-then-closes
returns-then-closes c = let x = c.args in
    let l = c.loop-i in
    left-short x.s.now x.t.now x.i x.j l.p l.q l.invariant c.closes.ensures (not-true c.closes.result c.loop-i-test.true-raw) c.closes-in-loop-i.ensures c.if-closes.true

pub returns-in_default : goal.returns-in_default
returns-in_default c = let x = c.args in
    let l = c.loop-i in
    left-lost x.s.now x.t.now x.i x.j l.p l.q l.invariant c.closes.ensures (not-true c.closes.result c.loop-i-test.true-raw) c.closes-in-loop-i.ensures c.if-closes.false c.in_default.is c.past.ensures

pub returns-in_default-past : goal.returns-in_default-past
returns-in_default-past c = let x = c.args in
    let l = c.loop-i in
    left-lost-too x.s.now x.t.now x.i x.j l.p l.q l.invariant c.closes.ensures (not-true c.closes.result c.loop-i-test.true-raw) c.closes-in-loop-i.ensures c.if-closes.false c.in_default-past.is c.past-in-loop-i.ensures

pub loop-i-smaller : goal.loop-i-smaller
loop-i-smaller c = let x = c.args in
    let l = c.loop-i in
    let h = past-on x.s.now l.p 64 c.in-Some.is c.past.ensures in
    omega (arith, h.0, h.1)

pub loop-i-preserved : goal.loop-i-preserved
loop-i-preserved c = let x = c.args in
    let l = c.loop-i in
    left-next x.s.now x.t.now x.i x.j l.p l.q l.invariant c.closes.ensures (not-true c.closes.result c.loop-i-test.true-raw) c.closes-in-loop-i.ensures c.if-closes.false c.in-Some.is c.past.ensures c.in-Some-past.is c.past-in-loop-i.ensures

pub returns : goal.returns
returns c = let x = c.args in
    let l = c.loop-i in
    left_end x.s.now x.t.now x.i x.j l.p l.q l.invariant c.closes.ensures (not-false c.closes.result c.loop-i-test.false-raw) c.closes-2.ensures
