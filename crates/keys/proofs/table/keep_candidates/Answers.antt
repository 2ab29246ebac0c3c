-- `keep_candidates` of src/table.rt meets its contract. Assumes nothing.
use Prim.Native.Nat.{min}
use mathlib.Core.Path.{◌≡◌, subst}
use lib.ListN.{get_or}
use Rattle.keys.specs.Keys.{CandidatesDone}
use Rattle.keys.proofs.FillLaws.{candidates-none, candidates-more}
use native.Mathlib.Omega.{arith}
use Rattle.keys.proofs.table.keep_candidates.Goals as goal

pub loop-i-init : goal.loop-i-init
loop-i-init c = let x = c.args in candidates-none x.room.now x.terms.now

pub loop-i-preserved : goal.loop-i-preserved
loop-i-preserved c = let x = c.args in
    let l = c.loop-i in
    let m = c.most-n.ensures in
    let i = c.loop-i-test.true in
    candidates-more x.room.now x.terms.now c.word-at.result c.key_at-k.result l.invariant (omega (arith, i, m)) c.word-at.ensures c.nowhere.ensures c.key_at-k.ensures c.put.ensures

pub returns : goal.returns
returns c = let x = c.args in
    let l = c.loop-i in
    let m = c.most-n.ensures in
    let w = c.word.ensures in
    let e : l.i ≡ min (get_or x.room.now 257 0) 256 = omega (arith, m, w) in
    subst (CandidatesDone x.room.now l.room x.terms.now) e l.invariant
