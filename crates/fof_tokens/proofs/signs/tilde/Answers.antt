-- `tilde` (src/signs.rt): each answer is one law of SignLaws.
use mathlib.Core.Path.{sym, ◌∙◌}
use Rattle.fof_tokens.proofs.ScanLaws.{known}
use Rattle.fof_tokens.proofs.SignLaws.{tilde-nor, tilde-nand, tilde-not}
use native.Mathlib.Omega.{arith}
use Rattle.fof_tokens.proofs.signs.tilde.Goals as goal

pub overflow_add-result : goal.overflow_add-result
overflow_add-result c = let x = c.args in let z = known x.text.now x.at c.byte-c.result 124 c.byte-c.ensures c.if-c-eq124.true (omega arith) in omega arith

pub returns-then-c-eq124 : goal.returns-then-c-eq124
returns-then-c-eq124 c = let x = c.args in tilde-nor x.at x.text.now (sym c.byte-c.ensures ∙ c.if-c-eq124.true)

pub overflow_add-result-then-c-eq38 : goal.overflow_add-result-then-c-eq38
overflow_add-result-then-c-eq38 c = let x = c.args in let z = known x.text.now x.at c.byte-c.result 38 c.byte-c.ensures c.if-c-eq38.true (omega arith) in omega arith

pub returns-then-c-eq38 : goal.returns-then-c-eq38
returns-then-c-eq38 c = let x = c.args in tilde-nand x.at x.text.now (sym c.byte-c.ensures ∙ c.if-c-eq38.true)

pub returns : goal.returns
returns c = let x = c.args in tilde-not x.at x.text.now (λ z. c.if-c-eq124.false (c.byte-c.ensures ∙ z)) (λ z. c.if-c-eq38.false (c.byte-c.ensures ∙ z))
