-- Octets that are a step of a path.
use mathlib.Core.Path.{◌∙◌}
use Rattle.reader.proofs.TextLaws.{step-l, step-r, step-number}
use Rattle.reader.proofs.shape.is_step.Goals as goal

pub returns-then-same : goal.returns-then-same
returns-then-same c = step-l c.args.w.now c.same.result c.if-same.true c.same.ensures

pub returns-then-same-2 : goal.returns-then-same-2
returns-then-same-2 c = step-r c.args.w.now c.same-2.result c.if-same-2.true c.same-2.ensures

pub returns : goal.returns
returns c = c.is_number.ensures ∙ step-number c.args.w.now c.same.result c.same-2.result c.if-same.false c.same.ensures c.if-same-2.false c.same-2.ensures
