-- Refusals 6 and 5 of a file, by whether its members are counted.
use mathlib.Core.Path.{sym, ◌∙◌}
use Rattle.reader.proofs.JudgedLaws.{not-counted}
use Rattle.reader.proofs.files.judge_sizes.Goals as goal

pub returns-then-is_counted : goal.returns-then-is_counted
returns-then-is_counted c = λ e h g l. c.judge_count.ensures (sym c.is_counted.ensures ∙ c.if-is_counted.true) e h g l

pub returns : goal.returns
returns c = λ e h g l. not-counted c.args.kind e c.judge_bars.result (sym c.is_counted.ensures ∙ c.if-is_counted.false) (c.judge_bars.ensures e h g l)
