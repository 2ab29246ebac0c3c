-- `past_list` meets its contract. What is left of the nesting falls at each call; the loop passes the members of one list (`Going`), and the bytes left fall.
use Prim.Native.Nat.{◌-◌}
use mathlib.Core.Path.{sym, subst}
use Rattle.std.specs.Prelude.{Some, None}
use Rattle.sexp.specs.Past.{PastAt}
use Rattle.sexp.proofs.SkipLaws.{past-flat, past-deep, going_start, going_on, pair-past, ends-further, past-whole, past_stop, past-cut}
use native.Mathlib.Omega.{arith}
use Rattle.sexp.proofs.skip.+past_list.Goals as goal

pub returns-then-nest-eq0 : goal.returns-then-nest-eq0
returns-then-nest-eq0 t c = let x = c.args in past-deep x.s.now x.at x.nest c.requires c.if-nest-eq0.true

pub loop-i-init : goal.loop-i-init
loop-i-init t c = let x = c.args in going_start x.s.now x.at (x.nest - 1)

pub returns-then-b-eq41 : goal.returns-then-b-eq41
returns-then-b-eq41 t c = let x = c.args in let w = c.loop-i in past-whole x.s.now x.at x.nest w.i c.requires c.if-nest-eq0.false w.invariant c.if-b-eq41.true

pub returns-in_err-i : goal.returns-in_err-i
returns-in_err-i t c =
    let x = c.args in
    let w = c.loop-i in
    subst (PastAt x.s.now x.at x.nest) (sym c.from_residual.ensures) (past_stop x.s.now x.at x.nest w.i c.requires c.if-nest-eq0.false w.invariant c.if-b-eq41.false (past-flat x.s.now w.i (x.nest - 1) None c.if-b-ne40.true c.in_err-i.ensures))

pub loop-i-smaller-then-b-ne40 : goal.loop-i-smaller-then-b-ne40
loop-i-smaller-then-b-ne40 t c = let x = c.args in let w = c.loop-i in let z = ends-further x.s.now w.i 0 c.in_ok-i.i c.in_ok-i.ensures in omega arith

pub loop-i-preserved-then-b-ne40 : goal.loop-i-preserved-then-b-ne40
loop-i-preserved-then-b-ne40 t c = let x = c.args in let w = c.loop-i in going_on x.s.now x.at (x.nest - 1) w.i w.invariant c.in_ok-i.i c.if-b-eq41.false (past-flat x.s.now w.i (x.nest - 1) (Some c.in_ok-i.i) c.if-b-ne40.true c.in_ok-i.ensures)

pub returns-then-nest-eq1 : goal.returns-then-nest-eq1
returns-then-nest-eq1 t c = let x = c.args in let w = c.loop-i in past_stop x.s.now x.at x.nest w.i c.requires c.if-nest-eq0.false w.invariant c.if-b-eq41.false (past-deep x.s.now w.i (x.nest - 1) c.if-b-ne40.false (omega arith))

pub loop-i-smaller-in-Some : goal.loop-i-smaller-in-Some
loop-i-smaller-in-Some t c = let x = c.args in let w = c.loop-i in let z = ends-further x.s.now w.i 1 c.in-Some.n c.in-Some.ensures in omega arith

pub loop-i-preserved-in-Some : goal.loop-i-preserved-in-Some
loop-i-preserved-in-Some t c = let x = c.args in let w = c.loop-i in going_on x.s.now x.at (x.nest - 1) w.i w.invariant c.in-Some.n c.if-b-eq41.false (pair-past x.s.now w.i (x.nest - 1) c.in-Some.n (λ k. c.if-nest-eq1.false (omega (arith, c.if-nest-eq0.false))) c.in-Some.ensures)

pub returns-in_err-i-2 : goal.returns-in_err-i-2
returns-in_err-i-2 t c =
    let x = c.args in
    let w = c.loop-i in
    subst (PastAt x.s.now x.at x.nest) (sym c.from_residual-in_err-i-2.ensures) (past_stop x.s.now x.at x.nest w.i c.requires c.if-nest-eq0.false w.invariant c.if-b-eq41.false c.in_err-i-2.ensures)

pub loop-i-smaller : goal.loop-i-smaller
loop-i-smaller t c = let x = c.args in let w = c.loop-i in let z = ends-further x.s.now w.i (x.nest - 1) c.in_ok-i-2.i c.in_ok-i-2.ensures in omega arith

pub loop-i-preserved : goal.loop-i-preserved
loop-i-preserved t c = let x = c.args in let w = c.loop-i in going_on x.s.now x.at (x.nest - 1) w.i w.invariant c.in_ok-i-2.i c.if-b-eq41.false c.in_ok-i-2.ensures

pub returns : goal.returns
returns t c = let x = c.args in let w = c.loop-i in past-cut x.s.now x.at x.nest w.i c.requires c.if-nest-eq0.false w.invariant c.loop-i-test.false
