-- `number_of` meets its contract: the digits read are all of the octets.
use mathlib.Core.Path.{sym, ◌∙◌}
use borrow.Author.Tests.{eqb-true, eqb-false}
use Rattle.sexp.proofs.NumeralLaws.{numeral-none, numeral-long, numeral-first, numeral-more, numeral-read}
use native.Mathlib.Omega.{arith}
use Rattle.sexp.proofs.words.number_of.Goals as goal

pub returns-then-is_empty : goal.returns-then-is_empty
returns-then-is_empty c = numeral-none c.args.w.now (eqb-true _ _ (sym c.is_empty.ensures ∙ c.if-is_empty.true))

pub returns-then-w-gt3 : goal.returns-then-w-gt3
returns-then-w-gt3 c = numeral-long c.args.w.now c.if-w-gt3.true

pub returns-then-not-digit : goal.returns-then-not-digit
returns-then-not-digit c = numeral-first c.args.w.now (sym c.digit.ensures ∙ c.if-not-digit.true)

pub number-value-requires : goal.number-value-requires
number-value-requires c = (let n = eqb-false _ _ (sym c.is_empty.ensures ∙ c.if-is_empty.false) in omega arith, sym c.digit.ensures ∙ c.if-not-digit.false)

pub returns-then-next-w : goal.returns-then-next-w
returns-then-next-w c = numeral-read c.args.w.now c.number-value.result.value c.number-value.result.next c.number-value.ensures c.if-next-w.true (omega arith)

pub returns-else-next-w : goal.returns-else-next-w
returns-else-next-w c = numeral-more c.args.w.now c.number-value.result.value c.number-value.result.next c.number-value.ensures c.if-next-w.false
