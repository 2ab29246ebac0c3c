-- `fill_heads` of src/table.rt meets its contract. Assumes nothing.
use native.Mathlib.Omega.{arith}
use Rattle.narrow.proofs.FillLaws.{heads-none, heads-more, heads-filled}
use Rattle.narrow.proofs.table.fill_heads.Goals as goal

pub loop-k-init : goal.loop-k-init
loop-k-init c = let x = c.args in heads-none x.room.now x.rules.now

pub loop-k-preserved : goal.loop-k-preserved
loop-k-preserved c = let x = c.args in
    heads-more x.room.now x.rules.now c.head_at-h.result c.word-at.result c.predicate_of.result c.place_of.result c.loop-k.invariant (omega (arith, c.min-k-end.ensures, c.loop-k-test.true)) c.word-at.ensures c.head_at-h.ensures c.predicate_of.ensures c.place_of.ensures c.put.ensures c.put-in-loop-k.ensures

pub shape_of-room : goal.shape_of-room
shape_of-room c = c.loop-k.invariant.within.long

pub returns : goal.returns
returns c = let x = c.args in
    let l = c.loop-k in
    heads-filled x.room.now l.room x.rules.now l.invariant (omega (arith, c.loop-k-test.false))
