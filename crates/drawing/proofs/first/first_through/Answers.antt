-- The first candidate on the way into a clause, by the loop over the candidates. Assumes nothing.
use native.Mathlib.Omega.{arith}
use borrow.Author.Rules.{rules}
use Prim.Native.Nat.{◌-◌, ◌≤◌}
use mathlib.Core.Path.{◌≡◌, refl, ◌∙◌}
use lib.ListN.{length}
use Rattle.drawing.proofs.FirstLaws as laws
use Rattle.drawing.proofs.first.first_through.Goals as goal

pub loop-i-init : goal.loop-i-init
loop-i-init c = (refl, laws.through-start c.args.nest)

pub shape_of-room-then-through_with : goal.shape_of-room-then-through_with
shape_of-room-then-through_with c = c.through_with.auto.room ∙ c.loop-i.invariant.0

pub returns-then-through_with : goal.returns-then-through_with
returns-then-through_with c = let l = c.loop-i in
    laws.through-hit c.args.nest l.i c.candidates-n.result c.loop-i-test.true c.candidates-n.ensures l.invariant.1 l.invariant.0 c.through_with.ensures c.if-through_with.true

pub loop-i-preserved : goal.loop-i-preserved
loop-i-preserved c = let l = c.loop-i in
    (c.through_with.auto.room ∙ l.invariant.0, laws.through-miss c.args.nest l.i c.candidates-n.result c.loop-i-test.true c.candidates-n.ensures l.invariant.1 l.invariant.0 c.through_with.ensures c.if-through_with.false)

pub shape_of-room : goal.shape_of-room
shape_of-room c = c.loop-i.invariant.0

pub returns : goal.returns
returns c = let l = c.loop-i in
    laws.through-none c.args.nest l.i c.candidates-n.result c.loop-i-test.false c.candidates-n.ensures l.invariant.1
