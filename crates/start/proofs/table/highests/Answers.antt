-- `highests` of src/table.rt meets its contract. Assumes nothing.
use Rattle.start.proofs.TableLaws.{high-none, high-more}
use Rattle.start.specs.Head.{HighestIn}
use mathlib.Core.Path.{◌≡◌, subst}
use Prim.Native.Nat.{◌-◌, ◌≤◌}
use native.Mathlib.Omega.{arith}
use borrow.Author.Rules.{rules}
use Rattle.start.proofs.table.highests.Goals as goal

pub loop-i-init : goal.loop-i-init
loop-i-init c = let x = c.args in high-none x.room.now x.terms.now

pub loop-i-preserved : goal.loop-i-preserved
loop-i-preserved c = let x = c.args in
    let l = c.loop-i in
    high-more x.room.now x.terms.now c.hold.result c.highest.result c.word_after-at.result l.invariant (omega arith) c.word_after-at.ensures c.highest.ensures c.hold.ensures c.put.ensures

pub returns : goal.returns
returns c = let x = c.args in
    let l = c.loop-i in
    let e : l.i ≡ x.count = omega arith in
    subst (HighestIn x.room.now l.room x.terms.now) e l.invariant
