-- `fill_arguments` of src/kept.rt meets its contract. Assumes nothing.
use native.Mathlib.Omega.{arith}
use Rattle.narrow.proofs.KeptLaws.{arguments-none, arguments-next, arguments-filled}
use Rattle.narrow.proofs.kept.fill_arguments.Goals as goal

pub loop-k-init : goal.loop-k-init
loop-k-init c = let x = c.args in arguments-none x.room.now x.rules.now x.terms.now

pub loop-k-preserved : goal.loop-k-preserved
loop-k-preserved c = let x = c.args in
    arguments-next x.room.now x.rules.now x.terms.now c.loop-k.invariant (omega (arith, c.min-k-end.ensures, c.loop-k-test.true)) c.word-key.ensures c.word-at.ensures c.arguments_word-w.ensures c.put.ensures

pub shape_of-room : goal.shape_of-room
shape_of-room c = c.loop-k.invariant.within.long

pub returns : goal.returns
returns c = let x = c.args in
    let l = c.loop-k in
    arguments-filled x.room.now l.room x.rules.now x.terms.now l.invariant (omega (arith, c.loop-k-test.false))
