-- `shuts` (src/gaps.rt): its two tests, one after the other.
use Rattle.fof_tokens.proofs.ScanLaws.{known}
use Rattle.fof_tokens.proofs.GapLaws.{shuts-first, shuts-second}
use native.Mathlib.Omega.{arith}
use Rattle.fof_tokens.proofs.gaps.shuts.Goals as goal

pub returns-then-byte-ne42 : goal.returns-then-byte-ne42
returns-then-byte-ne42 c = let x = c.args in shuts-first x.text.now x.at c.byte.result c.byte.ensures c.if-byte-ne42.true

pub overflow_add-at : goal.overflow_add-at
overflow_add-at c = let x = c.args in let z = known x.text.now x.at c.byte.result 42 c.byte.ensures c.if-byte-ne42.false (omega arith) in omega arith

pub returns : goal.returns
returns c = let x = c.args in shuts-second x.text.now x.at c.byte.result c.byte-2.result c.byte.ensures c.if-byte-ne42.false c.byte-2.ensures
