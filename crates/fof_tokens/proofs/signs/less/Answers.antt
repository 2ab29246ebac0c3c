-- `less` (src/signs.rt): each answer is one law of SignLaws.
use mathlib.Core.Path.{sym, ◌∙◌}
use Rattle.fof_tokens.proofs.ScanLaws.{known}
use Rattle.fof_tokens.proofs.SignLaws.{less_equal, less_none, wave-none, wave-more}
use native.Mathlib.Omega.{arith}
use Rattle.fof_tokens.proofs.signs.less.Goals as goal

pub overflow_add-at : goal.overflow_add-at
overflow_add-at c = let x = c.args in let z = known x.text.now x.at c.byte-c.result 61 c.byte-c.ensures c.if-c-eq61.true (omega arith) in omega arith

pub returns-then-c-eq61 : goal.returns-then-c-eq61
returns-then-c-eq61 c = let x = c.args in c.one_more.ensures ∙ less_equal x.at x.text.now (sym c.byte-c.ensures ∙ c.if-c-eq61.true)

pub returns-then-c-ne126 : goal.returns-then-c-ne126
returns-then-c-ne126 c = let x = c.args in less_none x.at x.text.now (λ z. c.if-c-eq61.false (c.byte-c.ensures ∙ z)) (λ z. c.if-c-ne126.true (c.byte-c.ensures ∙ z))

pub overflow_add-at-2 : goal.overflow_add-at-2
overflow_add-at-2 c = let x = c.args in let z = known x.text.now x.at c.byte-c.result 126 c.byte-c.ensures c.if-c-ne126.false (omega arith) in omega arith

pub returns-then-byte-ne62 : goal.returns-then-byte-ne62
returns-then-byte-ne62 c = let x = c.args in wave-none x.at x.text.now (sym c.byte-c.ensures ∙ c.if-c-ne126.false) (λ z. c.if-byte-ne62.true (c.byte.ensures ∙ z))

pub overflow_add-result : goal.overflow_add-result
overflow_add-result c = let x = c.args in let z = known x.text.now x.at c.byte-c.result 126 c.byte-c.ensures c.if-c-ne126.false (omega arith) in omega arith

pub returns : goal.returns
returns c = let x = c.args in wave-more x.at x.text.now (sym c.byte-c.ensures ∙ c.if-c-ne126.false) (sym c.byte.ensures ∙ c.if-byte-ne62.false)
