-- What the number at an offset says.
use mathlib.Core.Path.{◌∙◌}
use Rattle.reader.proofs.BarsLaws.{says}
use Rattle.reader.proofs.bars.number_at.Goals as goal

pub returns : goal.returns
returns c = λ w g t. c.unwrap_or.ensures ∙ says c.args.s.now c.args.at c.number.result c.number.ensures w g t
