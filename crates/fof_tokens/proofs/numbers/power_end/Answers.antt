-- `power_end` (src/numbers.rt): each answer is one law of NumberLaws.
use Prim.Native.Nat.{◌+◌}
use mathlib.Core.Path.{refl, sym, ◌∙◌, ap}
use borrow.Author.Tests.{not-true, not-false}
use Rattle.fof_tokens.specs.Bytes.{is_digit, is_sign}
use Rattle.fof_tokens.proofs.NumberLaws.{in-text, sign-in-text, power-digit, power-none, power-sign-none, power-sign}
use native.Mathlib.Omega.{arith}
use Rattle.fof_tokens.proofs.numbers.power_end.Goals as goal

pub overflow_add-at : goal.overflow_add-at
overflow_add-at c = let x = c.args in let z = in-text (λ d. is_digit d) x.text.now x.at c.byte-c.result refl c.byte-c.ensures (sym c.is_ascii_digit.ensures.value ∙ c.if-is_ascii_digit.true) in omega arith

pub returns-then-is_ascii_digit : goal.returns-then-is_ascii_digit
returns-then-is_ascii_digit c = let x = c.args in λ s last. power-digit s x.at c.run_end.result last x.text.now (ap is_digit (sym c.byte-c.ensures) ∙ sym c.is_ascii_digit.ensures.value ∙ c.if-is_ascii_digit.true) c.run_end.ensures

pub returns-then-not-is_sign : goal.returns-then-not-is_sign
returns-then-not-is_sign c = let x = c.args in λ s last. power-none s x.at last x.text.now (ap is_digit (sym c.byte-c.ensures) ∙ sym c.is_ascii_digit.ensures.value ∙ c.if-is_ascii_digit.false) (ap is_sign (sym c.byte-c.ensures) ∙ sym c.is_sign.ensures ∙ not-true _ c.if-not-is_sign.true-raw)

pub overflow_add-at-2 : goal.overflow_add-at-2
overflow_add-at-2 c = let x = c.args in let z = sign-in-text x.text.now x.at c.byte-c.result c.byte-c.ensures (sym c.is_sign.ensures ∙ not-false _ c.if-not-is_sign.false-raw) in omega arith

pub returns-then-not-is_ascii_digit : goal.returns-then-not-is_ascii_digit
returns-then-not-is_ascii_digit c = let x = c.args in λ s last. power-sign-none s x.at last x.text.now (ap is_digit (sym c.byte-c.ensures) ∙ sym c.is_ascii_digit.ensures.value ∙ c.if-is_ascii_digit.false) (ap is_sign (sym c.byte-c.ensures) ∙ sym c.is_sign.ensures ∙ not-false _ c.if-not-is_sign.false-raw) (ap is_digit (sym c.byte.ensures) ∙ sym c.is_ascii_digit-2.ensures.value ∙ not-true _ c.if-not-is_ascii_digit.true-raw)

pub overflow_add-at-3 : goal.overflow_add-at-3
overflow_add-at-3 c = let x = c.args in let z = in-text (λ d. is_digit d) x.text.now (x.at + 1) c.byte.result refl c.byte.ensures (sym c.is_ascii_digit-2.ensures.value ∙ not-false _ c.if-not-is_ascii_digit.false-raw) in omega arith

pub returns : goal.returns
returns c = let x = c.args in λ s last. power-sign s x.at c.run_end-2.result last x.text.now (ap is_digit (sym c.byte-c.ensures) ∙ sym c.is_ascii_digit.ensures.value ∙ c.if-is_ascii_digit.false) (ap is_sign (sym c.byte-c.ensures) ∙ sym c.is_sign.ensures ∙ not-false _ c.if-not-is_sign.false-raw) (ap is_digit (sym c.byte.ensures) ∙ sym c.is_ascii_digit-2.ensures.value ∙ not-false _ c.if-not-is_ascii_digit.false-raw) c.run_end-2.ensures
