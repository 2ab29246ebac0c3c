-- `link_all` of src/chain.rt meets its contract. Assumes nothing.
use Prim.Native.Nat.{◌-◌, min}
use mathlib.Core.Path.{◌≡◌, subst}
use native.Mathlib.Omega.{arith}
use Rattle.keys.specs.Chains.{LinkedFrom}
use Rattle.keys.proofs.ChainLaws.{linked-none, linked-next}
use Rattle.keys.proofs.chain.link_all.Goals as goal

pub loop-k-init : goal.loop-k-init
loop-k-init c = let x = c.args in
    let e = c.most-k.ensures in
    (omega (arith, e), subst (LinkedFrom x.numbers x.links (min x.n 256) x.room.now x.room.now) {x = min x.n 256} {y = c.most-k.result} (omega (arith, e)) (linked-none x.numbers x.links x.room.now (min x.n 256) (omega arith)))

pub loop-k-preserved : goal.loop-k-preserved
loop-k-preserved c = let x = c.args in
    let l = c.loop-k in
    let i = c.loop-k-test.true in
    (omega (arith, l.invariant.0), linked-next x.numbers x.links (min x.n 256) x.room.now (l.k - 1) c.chain_of.result c.word-next.result (omega arith) l.invariant.1 (omega (arith, i)) (omega (arith, l.invariant.0, i)) c.word.ensures c.chain_of.ensures.0 c.word-next.ensures c.put.ensures c.put-in-loop-k.ensures)

pub returns : goal.returns
returns c = let x = c.args in
    let l = c.loop-k in
    let e : l.k ≡ 0 = omega (arith, c.loop-k-test.false) in
    subst (LinkedFrom x.numbers x.links (min x.n 256) x.room.now l.room) e l.invariant.1
