-- `number_tail` (src/numbers.rt): each answer is one law of NumberLaws.
use Prim.Native.Nat.{◌+◌}
use mathlib.Core.Path.{refl, sym, ◌∙◌, ap}
use borrow.Author.Tests.{not-true, not-false}
use Rattle.fof_tokens.specs.Bytes.{is_digit, is_nonzero}
use Rattle.fof_tokens.proofs.ScanLaws.{known}
use Rattle.fof_tokens.proofs.NumberLaws.{in-text, slash-none, slash-more, point-none, point-more, decimal-as}
use native.Mathlib.Omega.{arith}
use Rattle.fof_tokens.proofs.numbers.number_tail.Goals as goal

pub overflow_add-at : goal.overflow_add-at
overflow_add-at c = let x = c.args in let z = known x.text.now x.at c.byte-c.result 47 c.byte-c.ensures c.if-c-eq47.true (omega arith) in omega arith

pub returns-then-not-is_nonzero : goal.returns-then-not-is_nonzero
returns-then-not-is_nonzero c = let x = c.args in λ last. slash-none x.at last x.text.now (sym c.byte-c.ensures ∙ c.if-c-eq47.true) (ap is_nonzero (sym c.byte.ensures) ∙ sym c.is_nonzero.ensures ∙ not-true _ c.if-not-is_nonzero.true-raw)

pub overflow_add-at-then-c-eq47 : goal.overflow_add-at-then-c-eq47
overflow_add-at-then-c-eq47 c = let x = c.args in let z = in-text (λ d. is_nonzero d) x.text.now (x.at + 1) c.byte.result refl c.byte.ensures (sym c.is_nonzero.ensures ∙ not-false _ c.if-not-is_nonzero.false-raw) in omega arith

pub returns-then-c-eq47 : goal.returns-then-c-eq47
returns-then-c-eq47 c = let x = c.args in λ last. slash-more x.at c.run_end-end.result last x.text.now (sym c.byte-c.ensures ∙ c.if-c-eq47.true) (ap is_nonzero (sym c.byte.ensures) ∙ sym c.is_nonzero.ensures ∙ not-false _ c.if-not-is_nonzero.false-raw) c.run_end-end.ensures

pub overflow_add-at-then-c-eq46 : goal.overflow_add-at-then-c-eq46
overflow_add-at-then-c-eq46 c = let x = c.args in let z = known x.text.now x.at c.byte-c.result 46 c.byte-c.ensures c.if-c-eq46.true (omega arith) in omega arith

pub returns-then-not-is_ascii_digit : goal.returns-then-not-is_ascii_digit
returns-then-not-is_ascii_digit c = let x = c.args in λ last. point-none x.at last x.text.now (sym c.byte-c.ensures ∙ c.if-c-eq46.true) (ap is_digit (sym c.byte-then-c-eq46.ensures) ∙ sym c.is_ascii_digit.ensures.value ∙ not-true _ c.if-not-is_ascii_digit.true-raw)

pub overflow_add-at-then-c-eq46-2 : goal.overflow_add-at-then-c-eq46-2
overflow_add-at-then-c-eq46-2 c = let x = c.args in let z = in-text (λ d. is_digit d) x.text.now (x.at + 1) c.byte-then-c-eq46.result refl c.byte-then-c-eq46.ensures (sym c.is_ascii_digit.ensures.value ∙ not-false _ c.if-not-is_ascii_digit.false-raw) in omega arith

pub returns-then-c-eq46 : goal.returns-then-c-eq46
returns-then-c-eq46 c = let x = c.args in λ last. c.with_exponent.ensures ∙ point-more x.at c.run_end-end-then-c-eq46.result last x.text.now (sym c.byte-c.ensures ∙ c.if-c-eq46.true) (ap is_digit (sym c.byte-then-c-eq46.ensures) ∙ sym c.is_ascii_digit.ensures.value ∙ not-false _ c.if-not-is_ascii_digit.false-raw) c.run_end-end-then-c-eq46.ensures

pub returns : goal.returns
returns c = let x = c.args in λ last. c.with_exponent-2.ensures ∙ decimal-as x.at last x.text.now (λ z. c.if-c-eq47.false (c.byte-c.ensures ∙ z)) (λ z. c.if-c-eq46.false (c.byte-c.ensures ∙ z))
