-- `exponent_end` (src/numbers.rt): the letter is there or not.
use mathlib.Core.Path.{sym, ◌∙◌, ap}
use borrow.Author.Tests.{not-true, not-false}
use Rattle.fof_tokens.specs.Bytes.{is_exponent}
use Rattle.fof_tokens.proofs.NumberLaws.{exponent-in-text, exponent-none, exponent-more}
use native.Mathlib.Omega.{arith}
use Rattle.fof_tokens.proofs.numbers.exponent_end.Goals as goal

pub returns-then-not-is_exponent : goal.returns-then-not-is_exponent
returns-then-not-is_exponent c = let x = c.args in λ s last. exponent-none s x.at last x.text.now (ap is_exponent (sym c.byte.ensures) ∙ sym c.is_exponent.ensures ∙ not-true _ c.if-not-is_exponent.true-raw)

pub overflow_add-at : goal.overflow_add-at
overflow_add-at c = let x = c.args in let z = exponent-in-text x.text.now x.at c.byte.result c.byte.ensures (sym c.is_exponent.ensures ∙ not-false _ c.if-not-is_exponent.false-raw) in omega arith

pub returns : goal.returns
returns c = let x = c.args in λ s last. exponent-more s x.at last x.text.now (ap is_exponent (sym c.byte.ensures) ∙ sym c.is_exponent.ensures ∙ not-false _ c.if-not-is_exponent.false-raw) ∙ c.power_end.ensures s last
