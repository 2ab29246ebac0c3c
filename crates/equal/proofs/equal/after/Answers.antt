-- `after` of src/equal.rt meets its contract. Assumes nothing.
use Rattle.equal.proofs.EqualLaws.{after_none, after-lost, after-inside, after-some}
use borrow.Author.Tests.{not-true, not-false}
use native.Mathlib.Omega.{arith}
use Rattle.equal.proofs.equal.after.Goals as goal

pub returns-then-not-same_text : goal.returns-then-not-same_text
returns-then-not-same_text c = let x = c.args in
    after_none x.files.now x.x x.y x.from c.part-s.ensures.bytes c.part-t.ensures.bytes c.same_text.ensures (not-true c.same_text.result c.if-not-same_text.true-raw)

pub overflow_add-x : goal.overflow_add-x
overflow_add-x c = let x = c.args in
    let h = after-inside x.files.now x.x x.y x.from c.part-s.ensures.bytes c.part-t.ensures.bytes c.same_text.ensures (not-false c.same_text.result c.if-not-same_text.false-raw) c.in-Some.is c.past.ensures in
    let l = c.part-s.ensures.short in
    record { fits = omega (arith, h.0, l) }

pub overflow_add-y : goal.overflow_add-y
overflow_add-y c = let x = c.args in
    let h = after-inside x.files.now x.x x.y x.from c.part-s.ensures.bytes c.part-t.ensures.bytes c.same_text.ensures (not-false c.same_text.result c.if-not-same_text.false-raw) c.in-Some.is c.past.ensures in
    let l = c.part-t.ensures.short in
    record { fits = omega (arith, h.1, l) }

pub returns-in-None : goal.returns-in-None
returns-in-None c = let x = c.args in
    after-lost x.files.now x.x x.y x.from c.part-s.ensures.bytes c.part-t.ensures.bytes c.same_text.ensures (not-false c.same_text.result c.if-not-same_text.false-raw) c.in-None.is c.past.ensures

pub returns-in-Some : goal.returns-in-Some
returns-in-Some c = let x = c.args in
    after-some x.files.now x.x x.y x.from c.part-s.ensures.bytes c.part-t.ensures.bytes c.same_text.ensures (not-false c.same_text.result c.if-not-same_text.false-raw) c.in-Some.is c.past.ensures c.moved.ensures c.moved-in-Some.ensures
