-- `dollar` (src/words.rt): each answer is one law of WordLaws.
use Prim.Native.Nat.{◌+◌}
use mathlib.Core.Path.{refl, sym, ◌∙◌, ap}
use borrow.Author.Tests.{not-true, not-false}
use Rattle.fof_tokens.specs.Bytes.{is_small}
use Rattle.fof_tokens.proofs.ScanLaws.{known}
use Rattle.fof_tokens.proofs.NumberLaws.{in-text}
use Rattle.fof_tokens.proofs.WordLaws.{dollar-word, dollar-none, dollars-none, dollars-word}
use native.Mathlib.Omega.{arith}
use Rattle.fof_tokens.proofs.words.dollar.Goals as goal

pub overflow_add-at : goal.overflow_add-at
overflow_add-at c = let x = c.args in let z = in-text (λ d. is_small d) x.text.now x.at c.byte-c.result refl c.byte-c.ensures (sym c.is_ascii_lowercase.ensures.value ∙ c.if-is_ascii_lowercase.true) in omega arith

pub returns-then-is_ascii_lowercase : goal.returns-then-is_ascii_lowercase
returns-then-is_ascii_lowercase c = let x = c.args in dollar-word x.at c.run_end.result x.text.now (ap is_small (sym c.byte-c.ensures) ∙ sym c.is_ascii_lowercase.ensures.value ∙ c.if-is_ascii_lowercase.true) c.run_end.ensures

pub returns-then-c-ne36 : goal.returns-then-c-ne36
returns-then-c-ne36 c = let x = c.args in dollar-none x.at x.text.now (ap is_small (sym c.byte-c.ensures) ∙ sym c.is_ascii_lowercase.ensures.value ∙ c.if-is_ascii_lowercase.false) (λ z. c.if-c-ne36.true (c.byte-c.ensures ∙ z))

pub overflow_add-at-2 : goal.overflow_add-at-2
overflow_add-at-2 c = let x = c.args in let z = known x.text.now x.at c.byte-c.result 36 c.byte-c.ensures c.if-c-ne36.false (omega arith) in omega arith

pub returns-then-not-is_ascii_lowercase : goal.returns-then-not-is_ascii_lowercase
returns-then-not-is_ascii_lowercase c = let x = c.args in dollars-none x.at x.text.now (sym c.byte-c.ensures ∙ c.if-c-ne36.false) (ap is_small (sym c.byte.ensures) ∙ sym c.is_ascii_lowercase-2.ensures.value ∙ not-true _ c.if-not-is_ascii_lowercase.true-raw)

pub overflow_add-at-3 : goal.overflow_add-at-3
overflow_add-at-3 c = let x = c.args in let z = in-text (λ d. is_small d) x.text.now (x.at + 1) c.byte.result refl c.byte.ensures (sym c.is_ascii_lowercase-2.ensures.value ∙ not-false _ c.if-not-is_ascii_lowercase.false-raw) in omega arith

pub returns : goal.returns
returns c = let x = c.args in dollars-word x.at c.run_end-2.result x.text.now (sym c.byte-c.ensures ∙ c.if-c-ne36.false) (ap is_small (sym c.byte.ensures) ∙ sym c.is_ascii_lowercase-2.ensures.value ∙ not-false _ c.if-not-is_ascii_lowercase.false-raw) c.run_end-2.ensures
