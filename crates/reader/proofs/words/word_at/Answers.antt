-- The word of the plain string at an offset: of three octets or four, it is told by its bytes.
use Rattle.reader.proofs.WordLaws.{word-short}
use native.Mathlib.Omega.{arith}
use Rattle.reader.proofs.words.word_at.Goals as goal

pub returns-then-n-eq51 : goal.returns-then-n-eq51
returns-then-n-eq51 c = let x = c.args in let k = c.is_colon_next.ensures c.if-is_colon_next.true in let l = k.0 in word-short x.s.now x.at 3 c.word_by.result (omega arith) (omega arith) c.if-n-eq51.true k.1 (c.word_by.ensures _ c.key_three.ensures)

pub returns-then-n-eq52 : goal.returns-then-n-eq52
returns-then-n-eq52 c = let x = c.args in let k = c.is_colon_next.ensures c.if-is_colon_next.true in let l = k.0 in word-short x.s.now x.at 4 c.word_by-then-n-eq52.result (omega arith) (omega arith) c.if-n-eq52.true k.1 (c.word_by-then-n-eq52.ensures _ c.key_four.ensures)
