-- `in_class` (src/run.rt): the test of each class.
use mathlib.Core.Path.{sym, ◌∙◌, ap}
use Rattle.fof_tokens.specs.declared.run.Class.{Class}
use Rattle.fof_tokens.specs.Runs.{passes}
use Rattle.fof_tokens.specs.Bytes.{in_line}
use Rattle.fof_tokens.proofs.run.in_class.Goals as goal

pub returns-in-Alnum : goal.returns-in-Alnum
returns-in-Alnum c = c.is_alnum.ensures ∙ ap (λ (k : Class). passes k c.args.c) (sym c.in-Alnum.is)

pub returns-in-Digit : goal.returns-in-Digit
returns-in-Digit c = c.is_ascii_digit.ensures.value ∙ ap (λ (k : Class). passes k c.args.c) (sym c.in-Digit.is)

pub returns-in-Line : goal.returns-in-Line
unfolding in_line
returns-in-Line c = ap (λ (k : Class). passes k c.args.c) (sym c.in-Line.is)
