-- `highest` and `highest_of` of src/table.rt meet their contracts. Assumes nothing.
use Rattle.equal.proofs.RestLaws.{past-on}
use mathlib.Core.Path.{◌∙◌}
use Rattle.start.proofs.HighLaws.{larger, HighLeft, high-never, high-parameter, high-terms, high-start, high-lost, high-next, high_end}
use borrow.Author.Tests.{not-true, not-false}
use lib.ListN.{length}
use native.Mathlib.Omega.{arith}
use borrow.Author.Rules.{rules}
use Prim.Native.Nat.{ℕ, ◌<◌, ◌+◌, ◌-◌, ◌*◌}
use Rattle.start.proofs.table.+highest.Goals as goal

pub highest-returns-then-nest-eq0 : goal.highest-returns-then-nest-eq0
highest-returns-then-nest-eq0 t c = let x = c.args in high-never x.s.now x.at x.nest c.if-nest-eq0.true

pub highest-returns-in-Parameter : goal.highest-returns-in-Parameter
highest-returns-in-Parameter t c = let x = c.args in high-parameter x.s.now x.at x.nest c.in-Parameter.is c.begins.ensures

pub highest-returns-in-Terms : goal.highest-returns-in-Terms
highest-returns-in-Terms t c = let x = c.args in high-terms x.s.now x.at x.nest c.highest_of.result c.in-Terms.is c.begins.ensures c.if-nest-eq0.false c.highest_of.ensures

pub highest_of-loop-m-init : goal.highest_of-loop-m-init
highest_of-loop-m-init t c = let x = c.args in high-start x.s.now x.at x.nest

pub highest_of-returns-in_default : goal.highest_of-returns-in_default
highest_of-returns-in_default t c = let x = c.args in
    let l = c.loop-m in
    high-lost x.s.now x.at x.nest l.p l.m l.invariant c.closes.ensures (not-true c.closes.result c.loop-m-test.true-raw) c.highest.ensures c.in_default.is c.past.ensures

pub highest_of-loop-m-smaller : goal.highest_of-loop-m-smaller
highest_of-loop-m-smaller t c = let x = c.args in
    let l = c.loop-m in
    let h = past-on x.s.now l.p 64 c.in-Some.is c.past.ensures in
    search rules

pub highest_of-loop-m-preserved : goal.highest_of-loop-m-preserved
highest_of-loop-m-preserved t c = let x = c.args in
    let l = c.loop-m in
    high-next x.s.now x.at x.nest l.p l.m l.invariant c.closes.ensures (not-true c.closes.result c.loop-m-test.true-raw) c.highest.ensures c.max-m.result (c.max-m.ensures ∙ larger l.m c.highest.result) c.in-Some.is c.past.ensures

pub highest_of-returns : goal.highest_of-returns
highest_of-returns t c = let x = c.args in
    let l = c.loop-m in
    high_end x.s.now x.at x.nest l.p l.m l.invariant c.closes.ensures (not-false c.closes.result c.loop-m-test.false-raw)
