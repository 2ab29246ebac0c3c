-- `text_end` (src/gaps.rt): the comment ends where it ended as seen from each byte passed.
use mathlib.Core.Path.{refl, sym, ◌∙◌}
use Rattle.fof_tokens.proofs.GapLaws.{text-none, text-more, text-shuts}
use Rattle.fof_tokens.proofs.gaps.text_end.Goals as goal

pub loop-i-init : goal.loop-i-init
loop-i-init c = refl

pub returns-then-shuts : goal.returns-then-shuts
returns-then-shuts c = let x = c.args in sym (c.loop-i.invariant ∙ text-shuts c.loop-i.i x.text.now (sym c.shuts.ensures ∙ c.if-shuts.true))

pub loop-i-preserved : goal.loop-i-preserved
loop-i-preserved c = let x = c.args in c.loop-i.invariant ∙ text-more c.loop-i.i x.text.now c.loop-i-test.true (sym c.shuts.ensures ∙ c.if-shuts.false)

pub returns : goal.returns
returns c = let x = c.args in sym (c.loop-i.invariant ∙ text-none c.loop-i.i x.text.now c.loop-i-test.false)
