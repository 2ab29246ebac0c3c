-- `keep_rules` of src/table.rt meets its contract. Assumes nothing.
use Prim.Native.Nat.{min}
use mathlib.Core.Path.{◌≡◌, subst}
use lib.ListN.{get_or}
use Rattle.keys.specs.Keys.{RulesDone}
use Rattle.keys.proofs.FillLaws.{rules-none, rules-more}
use native.Mathlib.Omega.{arith}
use Rattle.keys.proofs.table.keep_rules.Goals as goal

pub loop-i-init : goal.loop-i-init
loop-i-init c = let x = c.args in rules-none x.room.now x.rules.now

pub loop-i-preserved : goal.loop-i-preserved
loop-i-preserved c = let x = c.args in
    let l = c.loop-i in
    let m = c.most-n.ensures in
    let i = c.loop-i-test.true in
    rules-more x.room.now x.rules.now c.word-at.result c.clause_key-k.result l.invariant (omega (arith, i, m)) c.word-at.ensures c.clause_key-k.ensures c.put.ensures

pub returns : goal.returns
returns c = let x = c.args in
    let l = c.loop-i in
    let m = c.most-n.ensures in
    let w = c.word.ensures in
    let e : l.i ≡ min (get_or x.room.now 0 0) 256 = omega (arith, m, w) in
    subst (RulesDone x.room.now l.room x.rules.now) e l.invariant
