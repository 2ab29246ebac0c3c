-- `may_be` of src/head.rt meets its contract. Assumes nothing.
use Rattle.unset.proofs.HeadLaws.{may-be-yes, may-be-no, left_one, left-short, left-differs, left-next, left_end}
use Rattle.equal.proofs.RestLaws.{past-on}
use borrow.Author.Tests.{not-true, not-false}
use native.Mathlib.Omega.{arith}
use Rattle.unset.proofs.head.may_be.Goals as goal

pub returns-then-not-same_text : goal.returns-then-not-same_text
returns-then-not-same_text c = let x = c.args in
    may-be-no x.files.now x.room.now x.x x.y c.part-s.ensures.bytes c.part-t.ensures.bytes x.own c.same_text.ensures (not-true c.same_text.result c.if-not-same_text.true-raw)

pub returns-in_default : goal.returns-in_default
returns-in_default c = let x = c.args in
    may-be-yes x.files.now x.room.now x.x x.y x.own

pub loop-s-init : goal.loop-s-init
loop-s-init c = let x = c.args in
    left_one x.files.now x.room.now x.x x.y c.part-s.ensures.bytes c.part-t.ensures.bytes c.same_text.ensures (not-false c.same_text.result c.if-not-same_text.false-raw) c.past.ensures c.in-Some.is

pub returns-then-closes : goal.returns-then-closes
returns-then-closes c = let x = c.args in
    let l = c.loop-s in
    left-short x.files.now x.room.now x.x x.y c.part-s.ensures.bytes c.part-t.ensures.bytes l.p l.q l.invariant x.own c.closes.ensures (not-true c.closes.result c.loop-s-test.true-raw) c.closes-in-loop-s.ensures c.if-closes.true

pub returns-then-differs : goal.returns-then-differs
returns-then-differs c = let x = c.args in
    let l = c.loop-s in
    left-differs x.files.now x.room.now x.x x.y c.part-s.ensures.bytes c.part-t.ensures.bytes l.p l.q l.invariant c.closes.ensures (not-true c.closes.result c.loop-s-test.true-raw) c.closes-in-loop-s.ensures c.if-closes.false x.own c.further.ensures c.further-in-loop-s.ensures c.differs.ensures c.if-differs.true

pub returns-in_default-past : goal.returns-in_default-past
returns-in_default-past c = let x = c.args in
    may-be-yes x.files.now x.room.now x.x x.y x.own

pub returns-in_default-past-2 : goal.returns-in_default-past-2
returns-in_default-past-2 c = let x = c.args in
    may-be-yes x.files.now x.room.now x.x x.y x.own

pub loop-s-smaller : goal.loop-s-smaller
loop-s-smaller c = let l = c.loop-s in
    let h = past-on c.part-s.result.now l.p 64 c.in-Some-past.is c.past-in-loop-s.ensures in
    omega (arith, h.0, h.1)

pub loop-s-preserved : goal.loop-s-preserved
loop-s-preserved c = let x = c.args in
    let l = c.loop-s in
    left-next x.files.now x.room.now x.x x.y c.part-s.ensures.bytes c.part-t.ensures.bytes l.p l.q l.invariant c.closes.ensures (not-true c.closes.result c.loop-s-test.true-raw) c.closes-in-loop-s.ensures c.if-closes.false c.in-Some-past.is c.past-in-loop-s.ensures c.in-Some-past-2.is c.past-in-loop-s-2.ensures

pub returns : goal.returns
returns c = let x = c.args in
    let l = c.loop-s in
    left_end x.files.now x.room.now x.x x.y c.part-s.ensures.bytes c.part-t.ensures.bytes l.p l.q l.invariant x.own c.closes.ensures (not-false c.closes.result c.loop-s-test.false-raw) c.closes-2.ensures
