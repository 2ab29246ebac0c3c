-- `number` (src/numbers.rt): 0 alone, or digits.
use Prim.Native.Nat.{◌+◌}
use mathlib.Core.Path.{refl, sym, ◌∙◌, ap}
use borrow.Author.Tests.{not-true, not-false}
use mathlib.Core.Bool.{false≢true}
use Rattle.fof_tokens.specs.Bytes.{is_nonzero}
use Rattle.fof_tokens.specs.Machine.{ended, note}
use Rattle.fof_tokens.proofs.ScanLaws.{known}
use Rattle.fof_tokens.proofs.NumberLaws.{in-text, zero_or, number-zero, number-nonzero, decimal-run}
use native.Mathlib.Omega.{arith}
use Rattle.fof_tokens.proofs.numbers.number.Goals as goal

pub overflow_add-at : goal.overflow_add-at
overflow_add-at c = let x = c.args in let z = known x.text.now x.at c.byte-c.result 48 c.byte-c.ensures c.if-c-eq48.true (omega arith) in omega arith

pub returns-then-c-eq48 : goal.returns-then-c-eq48
returns-then-c-eq48 c = let x = c.args in λ q last d h. c.number_tail.ensures (note (ended q) x.at last) ∙ number-zero q x.at last x.text.now d (sym c.byte-c.ensures ∙ c.if-c-eq48.true)

pub returns-then-not-is_nonzero : goal.returns-then-not-is_nonzero
returns-then-not-is_nonzero c = let x = c.args in λ q last d h. absurd (false≢true (sym (ap is_nonzero (sym c.byte-c.ensures) ∙ sym c.is_nonzero.ensures ∙ not-true _ c.if-not-is_nonzero.true-raw) ∙ zero_or _ h (λ z. c.if-c-eq48.false (c.byte-c.ensures ∙ z))))

pub overflow_add-at-2 : goal.overflow_add-at-2
overflow_add-at-2 c = let x = c.args in let z = in-text (λ d. is_nonzero d) x.text.now x.at c.byte-c.result refl c.byte-c.ensures (sym c.is_nonzero.ensures ∙ not-false _ c.if-not-is_nonzero.false-raw) in omega arith

pub returns : goal.returns
returns c = let x = c.args in λ q last d h. c.number_tail-2.ensures (note (ended q) x.at last) ∙ decimal-run (x.at + 1) c.run_end-end.result (note (ended q) x.at last) (note (ended q) x.at last) x.text.now c.run_end-end.ensures ∙ number-nonzero q x.at last x.text.now d (ap is_nonzero (sym c.byte-c.ensures) ∙ sym c.is_nonzero.ensures ∙ not-false _ c.if-not-is_nonzero.false-raw)
