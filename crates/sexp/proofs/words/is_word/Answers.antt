-- `is_word` meets its contract: a word of fewer than ten octets has the bytes that ShortLaws say, and any other is what `is_word_long` finds.
use Rattle.sexp.proofs.ShortLaws.{short-bytes, short-told}
use native.Mathlib.Omega.{arith}
use Rattle.sexp.proofs.words.is_word.Goals as goal

pub returns-then-s-at : goal.returns-then-s-at
returns-then-s-at c = let x = c.args in let n = c.if-count-gt9.false in λ h. let k = (short-bytes x.s.now x.at {w = x.word.now} (omega arith) h).inside in omega arith

pub returns-then-s-at-2 : goal.returns-then-s-at-2
returns-then-s-at-2 c = let x = c.args in let n = c.if-count-gt9.false in λ h. let k = (short-bytes x.s.now x.at {w = x.word.now} (omega arith) h).inside in omega arith

pub returns-then-s-at-3 : goal.returns-then-s-at-3
returns-then-s-at-3 c = let x = c.args in let n = c.if-count-gt9.false in λ h. c.if-s-at-3.true (short-bytes x.s.now x.at {w = x.word.now} (omega arith) h).count

pub returns-then-s-at-ne58 : goal.returns-then-s-at-ne58
returns-then-s-at-ne58 c = let x = c.args in let n = c.if-count-gt9.false in λ h. c.if-s-at-ne58.true (short-bytes x.s.now x.at {w = x.word.now} (omega arith) h).colon

pub returns : goal.returns
returns c = let x = c.args in let n = c.if-count-gt9.false in let a = c.if-s-at.false in let l = c.if-s-at-2.false in short-told x.s.now x.at x.word.now c.same.result (omega arith) (omega arith) c.if-s-at-3.false c.if-s-at-ne58.false c.same.ensures
