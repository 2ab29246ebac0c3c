-- `canonical` (src/carrier.rt): what is due at each turn of the loop is `item lists`, and the judgement from there on is the judgement of the file.
use mathlib.Core.Path.{◌≡◌, sym, ap, ◌∙◌}
use Prim.Native.Nat.{ℕ, ◌+◌, ◌<◌, ◌≤◌}
use lib.ListN.{length, drop}
use Rattle.sexp.specs.declared.carrier.Carrier.{Carrier}
use Rattle.sexp.specs.Scan.{hints_read, State, after, owed, scan}
use Rattle.sexp.proofs.CarrierLaws.{item, item-owed, item-open, close-none, close-last, close_more, item-end, text-stuck, text-spans, carrier-start}
use native.Mathlib.Omega.{arith}
use Rattle.sexp.proofs.carrier.canonical.Goals as goal
use Rattle.sexp.proofs.carrier.canonical.Goals.{In-Ok}

-- past the string
spans-known : (c : In-Ok) → (c.loop-at.at < c.in-Ok.to) × ((c.in-Ok.to ≤ length c.args.s.now) × (scan hints_read c.args.limit (item c.loop-at.lists) c.loop-at.at c.loop-at.v (drop c.loop-at.at c.args.s.now) ≡ scan hints_read c.args.limit (owed (after c.loop-at.lists) 0) c.in-Ok.to c.loop-at.v (drop c.in-Ok.to c.args.s.now)))
spans-known c =
    let l = c.loop-at in
    let x = c.args in
    text-spans hints_read x.limit x.s.now l.at l.v l.lists c.text.result c.loop-at-test.true c.if-c-eq40.false c.if-c-eq41.false c.text.ensures c.in-Ok.field-0-0 c.in-Ok.to c.in-Ok.is

pub loop-at-init : goal.loop-at-init
loop-at-init c = (omega arith, (omega arith, carrier-start c.args.limit c.args.s.now))

pub loop-at-preserved-then-c-eq40 : goal.loop-at-preserved-then-c-eq40
loop-at-preserved-then-c-eq40 c =
    let l = c.loop-at in
    let x = c.args in
    (omega arith, (omega arith, l.invariant.1.1 ∙ item-open hints_read x.limit x.s.now l.at l.v l.lists c.loop-at-test.true c.if-c-eq40.true ∙ ap (λ (w : Carrier). scan hints_read x.limit (item (l.lists + 1)) (l.at + 1) w (drop (l.at + 1) x.s.now)) (sym c.deepen-v.ensures)))

pub returns-then-lists-eq0 : goal.returns-then-lists-eq0
returns-then-lists-eq0 c =
    let l = c.loop-at in
    let x = c.args in
    sym (l.invariant.1.1 ∙ close-none hints_read x.limit x.s.now l.at l.v l.lists c.loop-at-test.true c.if-c-eq41.true c.if-lists-eq0.true)

pub returns-then-lists-eq1 : goal.returns-then-lists-eq1
returns-then-lists-eq1 c =
    let l = c.loop-at in
    let x = c.args in
    c.finish.ensures x.limit ∙ sym (l.invariant.1.1 ∙ close-last hints_read x.limit x.s.now l.at l.v l.lists c.loop-at-test.true c.if-c-eq41.true c.if-lists-eq1.true)

pub loop-at-preserved-then-c-eq41 : goal.loop-at-preserved-then-c-eq41
loop-at-preserved-then-c-eq41 c =
    let l = c.loop-at in
    let x = c.args in
    (omega arith, (omega arith, l.invariant.1.1 ∙ close_more hints_read x.limit x.s.now l.at l.v l.lists c.loop-at-test.true c.if-c-eq41.true c.if-lists-eq0.false c.if-lists-eq1.false))

pub returns-in-Err : goal.returns-in-Err
returns-in-Err c =
    let l = c.loop-at in
    let x = c.args in
    sym (l.invariant.1.1 ∙ text-stuck hints_read x.limit x.s.now l.at l.v l.lists c.text.result c.loop-at-test.true c.if-c-eq40.false c.if-c-eq41.false c.text.ensures c.in-Err.o c.in-Err.is)

pub finish-requires-then-lists-eq0-2 : goal.finish-requires-then-lists-eq0-2
finish-requires-then-lists-eq0-2 c = (spans-known (goal.at.finish-requires-then-lists-eq0-2 c).In-Ok).1.0

pub returns-then-lists-eq0-2 : goal.returns-then-lists-eq0-2
returns-then-lists-eq0-2 c =
    let l = c.loop-at in
    let x = c.args in
    let q = spans-known (goal.at.returns-then-lists-eq0-2 c).In-Ok in
    c.finish-then-lists-eq0-2.ensures x.limit ∙ sym (l.invariant.1.1 ∙ q.1.1 ∙ ap (λ (d : ℕ). scan hints_read x.limit (owed (after d) 0) c.in-Ok.to l.v (drop c.in-Ok.to x.s.now)) c.if-lists-eq0-2.true)

pub loop-at-smaller : goal.loop-at-smaller
loop-at-smaller c = let q = spans-known (goal.at.loop-at-smaller c).In-Ok in omega arith

pub loop-at-preserved : goal.loop-at-preserved
loop-at-preserved c =
    let l = c.loop-at in
    let x = c.args in
    let q = spans-known (goal.at.loop-at-preserved c).In-Ok in
    (q.1.0, (omega arith, l.invariant.1.1 ∙ q.1.1 ∙ ap (λ (k : State). scan hints_read x.limit k c.in-Ok.to l.v (drop c.in-Ok.to x.s.now)) (item-owed l.lists c.if-lists-eq0-2.false)))

pub returns : goal.returns
returns c =
    let l = c.loop-at in
    let x = c.args in
    sym (l.invariant.1.1 ∙ item-end hints_read x.limit x.s.now l.at l.v l.lists (omega arith))
