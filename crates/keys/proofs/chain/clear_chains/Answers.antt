-- `clear_chains` of src/chain.rt meets its contract. Assumes nothing.
use mathlib.Core.Path.{◌≡◌, subst}
use native.Mathlib.Omega.{arith}
use Rattle.keys.specs.Chains.{ClearedTo}
use Rattle.keys.proofs.ChainLaws.{cleared-none, cleared_more}
use Rattle.keys.proofs.chain.clear_chains.Goals as goal

pub loop-b-init : goal.loop-b-init
loop-b-init c = cleared-none c.args.links c.args.room.now

pub loop-b-preserved : goal.loop-b-preserved
loop-b-preserved c = let x = c.args in
    let l = c.loop-b in
    let i = c.loop-b-test.true in
    cleared_more x.links x.room.now l.invariant i c.put.ensures

pub returns : goal.returns
returns c = let x = c.args in
    let l = c.loop-b in
    let e : l.b ≡ 128 = omega arith in
    subst (ClearedTo x.links x.room.now l.room) e l.invariant
