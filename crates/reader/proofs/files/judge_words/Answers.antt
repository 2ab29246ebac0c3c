-- Refusals 4, 6 and 5 of a file, by its shape.
use mathlib.Core.Path.{◌∙◌}
use Rattle.reader.proofs.JudgedLaws.{words-wrong, words-past, words_right}
use Rattle.reader.proofs.files.judge_words.Goals as goal

pub returns-in-Err : goal.returns-in-Err
returns-in-Err c = λ e g l. c.at_fault.ensures ∙ words-wrong c.args.kind e c.shape_at.result c.in-Err.is (c.shape_at.ensures e g l)

pub returns-in-Ok : goal.returns-in-Ok
returns-in-Ok c = λ e g l. let h = words-past c.args.kind e c.shape_at.result c.in-Ok.is (c.shape_at.ensures e g l) in words_right c.args.kind e c.judge_sizes.result h (c.judge_sizes.ensures e h g l)
