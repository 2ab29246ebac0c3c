-- `plus` (src/numbers.rt): a digit comes or not.
use mathlib.Core.Path.{sym, ◌∙◌, ap}
use borrow.Author.Tests.{not-true, not-false}
use mathlib.Core.Option.{none}
use Rattle.fof_tokens.specs.Bytes.{is_digit}
use Rattle.fof_tokens.specs.Begins.{unsigned}
use Rattle.fof_tokens.proofs.NumberLaws.{plus_none, unsigned-digits}
use Rattle.fof_tokens.proofs.numbers.plus.Goals as goal

pub returns-then-not-is_ascii_digit : goal.returns-then-not-is_ascii_digit
returns-then-not-is_ascii_digit c = let x = c.args in plus_none x.at x.text.now (ap is_digit (sym c.byte.ensures) ∙ sym c.is_ascii_digit.ensures.value ∙ not-true _ c.if-not-is_ascii_digit.true-raw)

pub returns : goal.returns
returns c = c.number.ensures unsigned none unsigned-digits (ap is_digit (sym c.byte.ensures) ∙ sym c.is_ascii_digit.ensures.value ∙ not-false _ c.if-not-is_ascii_digit.false-raw)
