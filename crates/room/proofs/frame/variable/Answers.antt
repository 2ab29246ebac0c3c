-- `variable` of src/frame.rt meets its contract. Assumes nothing.
use Rattle.room.proofs.FrameLaws.{bound-in, bound-out}
use Rattle.room.specs.Frame.{binding_of}
use mathlib.Core.Path.{sym, ap, ◌∙◌}
use Rattle.room.proofs.frame.variable.Goals as goal

pub returns-then-i-count : goal.returns-then-i-count
returns-then-i-count c = let x = c.args in
    c.binding_of.ensures ∙ ap binding_of c.word_after.ensures ∙ sym (bound-in x.room.now x.base x.count x.i c.if-i-count.true)

pub returns : goal.returns
returns c = let x = c.args in sym (bound-out x.room.now x.base x.count x.i c.if-i-count.false)
