-- `starts` of src/table.rt meets its contract. Assumes nothing.
use Rattle.start.proofs.TableLaws.{Filling, filling-start, filling-end, filling-next, filling-full}
use Rattle.room.specs.Table.{StartsIn}
use mathlib.Core.Path.{◌≡◌, subst}
use Prim.Native.Nat.{◌-◌, ◌≤◌}
use native.Mathlib.Omega.{arith}
use borrow.Author.Rules.{rules}
use Rattle.start.proofs.table.starts.Goals as goal

pub loop-k-init : goal.loop-k-init
loop-k-init c = let x = c.args in filling-start x.room.now x.s.now x.at x.base

pub returns-in_default : goal.returns-in_default
returns-in_default c = let x = c.args in
    let l = c.loop-k in
    filling-end x.room.now x.s.now x.at x.base l.invariant c.in_default.is c.past.ensures

pub loop-k-preserved : goal.loop-k-preserved
loop-k-preserved c = let x = c.args in
    let l = c.loop-k in
    filling-next x.room.now x.s.now x.at x.base l.invariant c.hold.result c.in-Some.is c.past.ensures c.loop-k-test.true c.hold.ensures c.put.ensures

pub returns : goal.returns
returns c = let x = c.args in
    let l = c.loop-k in
    let e : l.k ≡ 256 = omega arith in
    subst (StartsIn x.room.now l.room x.s.now x.at x.base) e (filling-full x.room.now x.s.now x.at x.base l.invariant (omega arith))
