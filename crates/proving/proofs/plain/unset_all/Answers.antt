-- `unset_all` of src/plain.rt meets its contract. Assumes nothing.
use mathlib.Core.Path.{◌≡◌, subst}
use Rattle.proving.specs.Filling.{Unsets}
use Rattle.proving.proofs.PlainLaws.{unset-start, unset-more}
use native.Mathlib.Omega.{arith}
use Rattle.proving.proofs.plain.unset_all.Goals as goal

pub loop-v-init : goal.loop-v-init
loop-v-init c = let x = c.args in unset-start x.room.now x.x

pub loop-v-preserved : goal.loop-v-preserved
loop-v-preserved c = let x = c.args in
    let l = c.loop-v in
    unset-more x.room.now l.room c.push.new.room x.x l.v c.word_of.result (omega arith) c.word_of.ensures c.push.ensures l.invariant

pub shape_of-room : goal.shape_of-room
shape_of-room c = c.loop-v.invariant.long

pub returns : goal.returns
returns c = let x = c.args in
    let l = c.loop-v in
    let e : l.v ≡ x.own = omega (arith, c.loop-v-test.false, l.auto.v-end) in
    subst (Unsets x.room.now l.room x.x) e l.invariant
