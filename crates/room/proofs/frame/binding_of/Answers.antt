-- `binding_of` of src/frame.rt meets its contract. Assumes nothing.
use Rattle.room.specs.Frame.{binding_of}
use borrow.Author.Tests.{eq-eqb, ne_eqb}
use Rattle.room.proofs.frame.binding_of.Goals as goal

pub returns-then-w-eq0 : goal.returns-then-w-eq0
unfolding binding_of
returns-then-w-eq0 c = simp (eq-eqb _ _ c.if-w-eq0.true)

pub returns : goal.returns
unfolding binding_of
returns c = simp (ne_eqb _ _ c.if-w-eq0.false)
