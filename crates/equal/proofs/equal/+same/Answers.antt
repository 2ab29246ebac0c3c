-- `same` and `same_rest` of src/equal.rt meet their contracts. Assumes nothing.
use Rattle.equal.proofs.RestLaws.{same-never, same-yes, same-no, same-further, left-start, left-short, left-differ, left-lost, left-lost-too, left-next, left_end, same-moved, past-on}
use borrow.Author.Tests.{not-true, not-false}
use borrow.Author.Rules.{rules}
use Rattle.equal.proofs.equal.+same.Goals as goal

pub same-returns-then-nest-eq0 : goal.same-returns-then-nest-eq0
same-returns-then-nest-eq0 t c = let x = c.args in
    same-never x.files.now x.room.now x.x x.y x.nest c.if-nest-eq0.true

pub same-returns-in-Same : goal.same-returns-in-Same
same-returns-in-Same t c = let x = c.args in
    same-yes x.files.now x.room.now x.x x.y x.nest c.in-Same.is c.begin.ensures

pub same-returns-in-Differ : goal.same-returns-in-Differ
same-returns-in-Differ t c = let x = c.args in
    same-no x.files.now x.room.now x.x x.y x.nest c.in-Differ.is c.begin.ensures

pub same-returns-in-Rest : goal.same-returns-in-Rest
same-returns-in-Rest t c = let x = c.args in
    same-further x.files.now x.room.now x.x x.y x.nest c.same_rest.result c.in-Rest.is c.begin.ensures c.if-nest-eq0.false c.same_rest.ensures

pub same_rest-loop-s-init : goal.same_rest-loop-s-init
same_rest-loop-s-init t c = let x = c.args in
    left-start x.files.now x.room.now x.x x.y x.nest

pub same_rest-returns-then-closes : goal.same_rest-returns-then-closes
same_rest-returns-then-closes t c = let x = c.args in
    let l = c.loop-s in
    left-short x.files.now x.room.now x.x x.y x.nest l.p l.q _ _ c.file-s.ensures c.file-t.ensures l.invariant c.closes.ensures (not-true c.closes.result c.loop-s-test.true-raw) c.closes-in-loop-s.ensures c.if-closes.true

pub same_rest-returns-then-not-same : goal.same_rest-returns-then-not-same
same_rest-returns-then-not-same t c = let x = c.args in
    let l = c.loop-s in
    left-differ x.files.now x.room.now x.x x.y x.nest l.p l.q _ _ c.file-s.ensures c.file-t.ensures l.invariant c.closes.ensures (not-true c.closes.result c.loop-s-test.true-raw) c.closes-in-loop-s.ensures c.if-closes.false (same-moved x.files.now x.room.now x.x x.y l.p l.q x.nest c.same.result c.moved.ensures c.moved-in-loop-s.ensures c.same.ensures) (not-true c.same.result c.if-not-same.true-raw)

pub same_rest-returns-in_default : goal.same_rest-returns-in_default
same_rest-returns-in_default t c = let x = c.args in
    let l = c.loop-s in
    left-lost x.files.now x.room.now x.x x.y x.nest l.p l.q _ _ c.file-s.ensures c.file-t.ensures l.invariant c.closes.ensures (not-true c.closes.result c.loop-s-test.true-raw) c.closes-in-loop-s.ensures c.if-closes.false (same-moved x.files.now x.room.now x.x x.y l.p l.q x.nest c.same.result c.moved.ensures c.moved-in-loop-s.ensures c.same.ensures) c.in_default.is c.past.ensures

pub same_rest-returns-in_default-past : goal.same_rest-returns-in_default-past
same_rest-returns-in_default-past t c = let x = c.args in
    let l = c.loop-s in
    left-lost-too x.files.now x.room.now x.x x.y x.nest l.p l.q _ _ c.file-s.ensures c.file-t.ensures l.invariant c.closes.ensures (not-true c.closes.result c.loop-s-test.true-raw) c.closes-in-loop-s.ensures c.if-closes.false (same-moved x.files.now x.room.now x.x x.y l.p l.q x.nest c.same.result c.moved.ensures c.moved-in-loop-s.ensures c.same.ensures) c.in_default-past.is c.past-in-loop-s.ensures

pub same_rest-loop-s-smaller : goal.same_rest-loop-s-smaller
same_rest-loop-s-smaller t c = let x = c.args in
    let l = c.loop-s in
    let h = past-on c.file-s.result.now l.p 64 c.in-Some.is c.past.ensures in
    search rules

pub same_rest-loop-s-preserved : goal.same_rest-loop-s-preserved
same_rest-loop-s-preserved t c = let x = c.args in
    let l = c.loop-s in
    left-next x.files.now x.room.now x.x x.y x.nest l.p l.q _ _ c.file-s.ensures c.file-t.ensures l.invariant c.closes.ensures (not-true c.closes.result c.loop-s-test.true-raw) c.closes-in-loop-s.ensures c.if-closes.false (same-moved x.files.now x.room.now x.x x.y l.p l.q x.nest c.same.result c.moved.ensures c.moved-in-loop-s.ensures c.same.ensures) (not-false c.same.result c.if-not-same.false-raw) c.in-Some.is c.past.ensures c.in-Some-past.is c.past-in-loop-s.ensures

pub same_rest-returns : goal.same_rest-returns
same_rest-returns t c = let x = c.args in
    let l = c.loop-s in
    left_end x.files.now x.room.now x.x x.y x.nest l.p l.q _ _ c.file-s.ensures c.file-t.ensures l.invariant c.closes.ensures (not-false c.closes.result c.loop-s-test.false-raw) c.closes-2.ensures
