-- `meets` and `meets_member` of src/variables.rt meet their contracts: the nesting that is left falls at each list; the loop walks through the members of one list (`Meeting`), and the bytes left fall. Assumes nothing.
use mathlib.Core.Path.{refl, sym, ◌∙◌}
use mathlib.Core.Bool.{true, false}
use lib.ListN.{get_or}
use borrow.Author.Tests.{eqb-true, not-true, not-false}
use Rattle.sexp.proofs.SkipLaws.{past-deep}
use Rattle.room.specs.Spot.{bindings_at}
use Rattle.mentions.specs.Open.{asked}
use Rattle.held.proofs.VariableLaws.{held-flat}
use Rattle.held.proofs.MeetLaws.{word-there, meets-ended, meeting-start, meeting-end, meeting-asked, meeting-lost, meeting-next, meeting-less}
use native.Mathlib.Omega.{arith}
use Rattle.held.proofs.variables.+meets.Goals as goal

pub meets-returns-then-not-opens : goal.meets-returns-then-not-opens
meets-returns-then-not-opens t c = let x = c.args in
    let bs = bindings_at x.room.now x.x in
    let flat = not-true c.opens.result c.if-not-opens.true-raw in
    meets-ended x.s.now x.at x.depth x.nest (asked x.own bs x.also x.v) (asked x.own bs true x.v) c.past.result false c.ended.ensures c.past.ensures (held-flat x.s.now x.at x.depth x.nest (asked x.own bs x.also x.v) c.opens.ensures flat) (held-flat x.s.now x.at x.depth x.nest (asked x.own bs true x.v) c.opens.ensures flat)

pub meets-returns-then-nest-eq0 : goal.meets-returns-then-nest-eq0
meets-returns-then-nest-eq0 t c = let x = c.args in
    past-deep x.s.now x.at x.nest (eqb-true (get_or x.s.now x.at 0) 40 (sym c.opens.ensures ∙ not-false c.opens.result c.if-not-opens.false-raw)) c.if-nest-eq0.true

pub meets-returns-then-is_word : goal.meets-returns-then-is_word
meets-returns-then-is_word t c = let x = c.args in
    c.meets_variable.ensures (eqb-true (get_or x.s.now x.at 0) 40 (sym c.opens.ensures ∙ not-false c.opens.result c.if-not-opens.false-raw)) c.if-nest-eq0.false (word-there x.at c.plus.ensures c.is_word.ensures c.if-is_word.true)

pub meets-loop-x-init : goal.meets-loop-x-init
meets-loop-x-init t c = let x = c.args in
    let bs = bindings_at x.room.now x.x in
    meeting-start x.s.now x.at x.depth x.nest (asked x.own bs x.also x.v) (asked x.own bs true x.v) c.opens.ensures (not-false c.opens.result c.if-not-opens.false-raw) (omega arith) c.plus.ensures c.is_word.ensures c.if-is_word.false c.around-d.ensures c.plus-q.ensures

pub meets-returns-in-Asked : goal.meets-returns-in-Asked
meets-returns-in-Asked t c = let x = c.args in
    let bs = bindings_at x.room.now x.x in
    meeting-asked x.s.now x.at x.depth x.nest (asked x.own bs x.also x.v) (asked x.own bs true x.v) c.opens.ensures (not-false c.opens.result c.if-not-opens.false-raw) c.if-nest-eq0.false c.loop-x.invariant c.closes.ensures (not-true c.closes.result c.loop-x-test.true-raw) c.meets_member.result c.meets_member.ensures c.in-Asked.is

pub meets-loop-x-smaller : goal.meets-loop-x-smaller
meets-loop-x-smaller t c = let x = c.args in
    let bs = bindings_at x.room.now x.x in
    let h = meeting-less x.s.now x.at x.depth x.nest (asked x.own bs x.also x.v) (asked x.own bs true x.v) c.opens.ensures (not-false c.opens.result c.if-not-opens.false-raw) c.if-nest-eq0.false c.loop-x.invariant c.closes.ensures (not-true c.closes.result c.loop-x-test.true-raw) c.meets_member.result c.meets_member.ensures c.in-Past.is in
    omega (arith, h.0, h.1)

pub meets-loop-x-preserved : goal.meets-loop-x-preserved
meets-loop-x-preserved t c = let x = c.args in
    let bs = bindings_at x.room.now x.x in
    meeting-next x.s.now x.at x.depth x.nest (asked x.own bs x.also x.v) (asked x.own bs true x.v) c.opens.ensures (not-false c.opens.result c.if-not-opens.false-raw) c.if-nest-eq0.false c.loop-x.invariant c.closes.ensures (not-true c.closes.result c.loop-x-test.true-raw) c.meets_member.result c.meets_member.ensures c.in-Past.is refl

pub meets-returns-in-Nothing : goal.meets-returns-in-Nothing
meets-returns-in-Nothing t c = let x = c.args in
    let bs = bindings_at x.room.now x.x in
    meeting-lost x.s.now x.at x.depth x.nest (asked x.own bs x.also x.v) (asked x.own bs true x.v) c.opens.ensures (not-false c.opens.result c.if-not-opens.false-raw) c.if-nest-eq0.false c.loop-x.invariant c.closes.ensures (not-true c.closes.result c.loop-x-test.true-raw) c.meets_member.result c.meets_member.ensures c.in-Nothing.is

pub meets-returns : goal.meets-returns
meets-returns t c = let x = c.args in
    let bs = bindings_at x.room.now x.x in
    meeting-end x.s.now x.at x.depth x.nest (asked x.own bs x.also x.v) (asked x.own bs true x.v) c.opens.ensures (not-false c.opens.result c.if-not-opens.false-raw) c.if-nest-eq0.false c.loop-x.invariant c.closes.ensures (omega arith) (not-false c.closes.result c.loop-x-test.false-raw) c.plus-2.ensures

pub meets_member-returns-then-not-opens : goal.meets_member-returns-then-not-opens
meets_member-returns-then-not-opens t c = let x = c.args in
    let bs = bindings_at x.room.now x.x in
    let flat = not-true c.opens.result c.if-not-opens.true-raw in
    meets-ended x.s.now x.at x.depth x.nest (asked x.own bs x.also x.v) (asked x.own bs true x.v) c.past.result false c.ended.ensures c.past.ensures (held-flat x.s.now x.at x.depth x.nest (asked x.own bs x.also x.v) c.opens.ensures flat) (held-flat x.s.now x.at x.depth x.nest (asked x.own bs true x.v) c.opens.ensures flat)

pub meets_member-returns : goal.meets_member-returns
meets_member-returns t c = c.meets.ensures
