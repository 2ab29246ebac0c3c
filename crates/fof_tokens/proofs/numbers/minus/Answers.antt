-- `minus` (src/numbers.rt): each answer is one law of NumberLaws.
use mathlib.Core.Path.{sym, ◌∙◌, ap}
use mathlib.Core.Option.{none}
use Rattle.fof_tokens.specs.Bytes.{is_digit}
use Rattle.fof_tokens.specs.Begins.{after_minus}
use Rattle.fof_tokens.proofs.ScanLaws.{known}
use Rattle.fof_tokens.proofs.NumberLaws.{minus-digits, minus-alone, dash-none, dash-more}
use native.Mathlib.Omega.{arith}
use Rattle.fof_tokens.proofs.numbers.minus.Goals as goal

pub returns-then-is_ascii_digit : goal.returns-then-is_ascii_digit
returns-then-is_ascii_digit c = c.number.ensures after_minus none minus-digits (ap is_digit (sym c.byte-c.ensures) ∙ sym c.is_ascii_digit.ensures.value ∙ c.if-is_ascii_digit.true)

pub returns-then-c-ne45 : goal.returns-then-c-ne45
returns-then-c-ne45 c = let x = c.args in minus-alone x.at x.text.now (ap is_digit (sym c.byte-c.ensures) ∙ sym c.is_ascii_digit.ensures.value ∙ c.if-is_ascii_digit.false) (λ z. c.if-c-ne45.true (c.byte-c.ensures ∙ z))

pub overflow_add-at : goal.overflow_add-at
overflow_add-at c = let x = c.args in let z = known x.text.now x.at c.byte-c.result 45 c.byte-c.ensures c.if-c-ne45.false (omega arith) in omega arith

pub returns-then-byte-ne62 : goal.returns-then-byte-ne62
returns-then-byte-ne62 c = let x = c.args in dash-none x.at x.text.now (sym c.byte-c.ensures ∙ c.if-c-ne45.false) (λ z. c.if-byte-ne62.true (c.byte.ensures ∙ z))

pub overflow_add-result : goal.overflow_add-result
overflow_add-result c = let x = c.args in let z = known x.text.now x.at c.byte-c.result 45 c.byte-c.ensures c.if-c-ne45.false (omega arith) in omega arith

pub returns : goal.returns
returns c = let x = c.args in dash-more x.at x.text.now (sym c.byte-c.ensures ∙ c.if-c-ne45.false) (sym c.byte.ensures ∙ c.if-byte-ne62.false)
