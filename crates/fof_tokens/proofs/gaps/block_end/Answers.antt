-- `block_end` (src/gaps.rt): the star is there or not.
use mathlib.Core.Path.{sym, ◌∙◌}
use Rattle.fof_tokens.proofs.ScanLaws.{known}
use Rattle.fof_tokens.proofs.GapLaws.{star-none, star-more}
use native.Mathlib.Omega.{arith}
use Rattle.fof_tokens.proofs.gaps.block_end.Goals as goal

pub returns-then-byte-ne42 : goal.returns-then-byte-ne42
returns-then-byte-ne42 c = let x = c.args in star-none x.at x.text.now (λ z. c.if-byte-ne42.true (c.byte.ensures ∙ z))

pub overflow_add-at : goal.overflow_add-at
overflow_add-at c = let x = c.args in let z = known x.text.now x.at c.byte.result 42 c.byte.ensures c.if-byte-ne42.false (omega arith) in omega arith

pub returns : goal.returns
returns c = let x = c.args in c.text_end.ensures ∙ star-more x.at x.text.now (sym c.byte.ensures ∙ c.if-byte-ne42.false)
