-- `match_head` of src/matching.rt meets its contract. Assumes nothing.
use mathlib.Core.Path.{refl, sym, ◌∙◌}
use borrow.Author.Tests.{not-true, not-false}
use Rattle.equal.proofs.RestLaws.{past-on}
use Rattle.unset.proofs.HeadLaws.{may-be-no, left_one, left-short, left-next}
use Rattle.proving.proofs.SettleLaws.{settle-open, settled-open, settle-never, settle-start, settle-lost, settle-stops, settle-next, settle-end}
use native.Mathlib.Omega.{arith}
use Rattle.proving.proofs.matching.match_head.Goals as goal

pub returns-then-not-same_text : goal.returns-then-not-same_text
returns-then-not-same_text c = let x = c.args in
    let f = x.files.now in
    settle-never {f = f} {room = x.room.now} {w = x.w} {p = x.p} {now = x.room.now} settle-open (may-be-no f x.room.now x.p.head x.w.goal c.part-s.ensures.bytes c.part-t.ensures.bytes x.p.own c.same_text.ensures (not-true c.same_text.result c.if-not-same_text.true-raw))

pub returns-in_default : goal.returns-in_default
returns-in_default c = let x = c.args in
    settle-open {f = x.files.now} {room = x.room.now} {w = x.w} {p = x.p}

pub loop-s-init : goal.loop-s-init
loop-s-init c = let x = c.args in
    let f = x.files.now in
    let text = not-false c.same_text.result c.if-not-same_text.false-raw in
    (refl, left_one f x.room.now x.p.head x.w.goal c.part-s.ensures.bytes c.part-t.ensures.bytes c.same_text.ensures text c.past.ensures c.in-Some.is, settle-start {f = f} {room = x.room.now} {w = x.w} {p = x.p} c.part-s.ensures.bytes c.part-t.ensures.bytes c.same_text.ensures text c.past.ensures c.in-Some.is)

pub shape_of-room-then-closes : goal.shape_of-room-then-closes
shape_of-room-then-closes c = c.loop-s.invariant.0

pub returns-then-closes : goal.returns-then-closes
returns-then-closes c = let x = c.args in
    let f = x.files.now in
    let l = c.loop-s in
    settle-never {f = f} {room = x.room.now} {w = x.w} {p = x.p} {now = l.room} (settled-open l.invariant.2) (left-short f x.room.now x.p.head x.w.goal c.part-s.ensures.bytes c.part-t.ensures.bytes l.i l.j l.invariant.1 x.p.own c.closes.ensures (not-true c.closes.result c.loop-s-test.true-raw) c.closes-in-loop-s.ensures c.if-closes.true)

pub shape_of-room-then-is_never : goal.shape_of-room-then-is_never
shape_of-room-then-is_never c = c.match_term-l.auto.room ∙ c.loop-s.invariant.0

pub returns-then-is_never : goal.returns-then-is_never
returns-then-is_never c = let x = c.args in
    let l = c.loop-s in
    settle-lost {f = x.files.now} {room = x.room.now} {w = x.w} {p = x.p} c.part-s.ensures.bytes c.part-t.ensures.bytes {now = l.room} l.i l.j l.invariant.1 {sure = l.sure} l.invariant.2 {after = c.match_term-l.new.room} c.closes.ensures (not-true c.closes.result c.loop-s-test.true-raw) c.closes-in-loop-s.ensures c.if-closes.false c.further.ensures c.further-in-loop-s.ensures c.match_term-l.ensures (sym c.is_never.ensures ∙ c.if-is_never.true)

pub shape_of-room-in_default-past : goal.shape_of-room-in_default-past
shape_of-room-in_default-past c = c.match_term-l.auto.room ∙ c.loop-s.invariant.0

pub returns-in_default-past : goal.returns-in_default-past
returns-in_default-past c = let x = c.args in
    let l = c.loop-s in
    settle-stops {f = x.files.now} {room = x.room.now} {w = x.w} {p = x.p} c.part-s.ensures.bytes c.part-t.ensures.bytes {now = l.room} l.i l.j l.invariant.1 {sure = l.sure} l.invariant.2 {after = c.match_term-l.new.room} c.closes.ensures (not-true c.closes.result c.loop-s-test.true-raw) c.closes-in-loop-s.ensures c.if-closes.false c.further.ensures c.further-in-loop-s.ensures c.match_term-l.ensures (sym c.is_never.ensures ∙ c.if-is_never.false)

pub shape_of-room-in_default-past-2 : goal.shape_of-room-in_default-past-2
shape_of-room-in_default-past-2 c = c.match_term-l.auto.room ∙ c.loop-s.invariant.0

pub returns-in_default-past-2 : goal.returns-in_default-past-2
returns-in_default-past-2 c = let x = c.args in
    let l = c.loop-s in
    settle-stops {f = x.files.now} {room = x.room.now} {w = x.w} {p = x.p} c.part-s.ensures.bytes c.part-t.ensures.bytes {now = l.room} l.i l.j l.invariant.1 {sure = l.sure} l.invariant.2 {after = c.match_term-l.new.room} c.closes.ensures (not-true c.closes.result c.loop-s-test.true-raw) c.closes-in-loop-s.ensures c.if-closes.false c.further.ensures c.further-in-loop-s.ensures c.match_term-l.ensures (sym c.is_never.ensures ∙ c.if-is_never.false)

pub loop-s-smaller : goal.loop-s-smaller
loop-s-smaller c = let h = past-on c.part-s.result.now c.loop-s.i 64 c.in-Some-past.is c.past-in-loop-s.ensures in
    omega (arith, h.0, h.1)

pub loop-s-preserved : goal.loop-s-preserved
loop-s-preserved c = let x = c.args in
    let f = x.files.now in
    let l = c.loop-s in
    let going = not-true c.closes.result c.loop-s-test.true-raw in
    (c.match_term-l.auto.room ∙ l.invariant.0, left-next f x.room.now x.p.head x.w.goal c.part-s.ensures.bytes c.part-t.ensures.bytes l.i l.j l.invariant.1 c.closes.ensures going c.closes-in-loop-s.ensures c.if-closes.false c.in-Some-past.is c.past-in-loop-s.ensures c.in-Some-past-2.is c.past-in-loop-s-2.ensures, settle-next {f = f} {room = x.room.now} {w = x.w} {p = x.p} c.part-s.ensures.bytes c.part-t.ensures.bytes {now = l.room} l.i l.j l.invariant.1 {sure = l.sure} l.invariant.2 {after = c.match_term-l.new.room} c.closes.ensures going c.closes-in-loop-s.ensures c.if-closes.false c.further.ensures c.further-in-loop-s.ensures c.match_term-l.ensures (sym c.is_never.ensures ∙ c.if-is_never.false) c.still-sure.ensures c.in-Some-past.is c.past-in-loop-s.ensures c.in-Some-past-2.is c.past-in-loop-s-2.ensures)

pub shape_of-room : goal.shape_of-room
shape_of-room c = c.loop-s.invariant.0

pub returns : goal.returns
returns c = let x = c.args in
    let l = c.loop-s in
    settle-end {f = x.files.now} {room = x.room.now} {w = x.w} {p = x.p} c.part-s.ensures.bytes c.part-t.ensures.bytes {now = l.room} l.i l.j l.invariant.1 {sure = l.sure} l.invariant.2 c.closes-2.result c.closes.ensures (not-false c.closes.result c.loop-s-test.false-raw) c.closes-2.ensures c.at_end.ensures
