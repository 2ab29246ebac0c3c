-- Refusal 5 of a file, by its first barred term.
use mathlib.Core.Path.{◌∙◌}
use Rattle.reader.proofs.TabledLaws.{built-tabled}
use Rattle.reader.proofs.JudgedLaws.{bars-judged}
use Rattle.reader.proofs.files.judge_bars.Goals as goal

pub returns-in-Err : goal.returns-in-Err
returns-in-Err c = λ e h g l. c.at_fault.ensures ∙ bars-judged c.args.kind c.args.n e c.may_hold.result c.bars_at.result _ c.may_hold.ensures c.in-Err.is (c.bars_at.ensures e (built-tabled e c.args.kind 0 h) g l)

pub returns-in-Ok : goal.returns-in-Ok
returns-in-Ok c = λ e h g l. bars-judged c.args.kind c.args.n e c.may_hold.result c.bars_at.result _ c.may_hold.ensures c.in-Ok.is (c.bars_at.ensures e (built-tabled e c.args.kind 0 h) g l)
