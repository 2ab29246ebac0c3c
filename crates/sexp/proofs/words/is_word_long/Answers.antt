-- `is_word_long` meets its contract: the octets of the plain string there are the word.
use Rattle.sexp.proofs.AnswerLaws.{plain-span, plain-nothing, plain-inside}
use Rattle.sexp.proofs.WordsAtLaws.{word-told}
use native.Mathlib.Omega.{arith}
use Rattle.sexp.proofs.words.is_word_long.Goals as goal

pub slice_bounds-same-end : goal.slice_bounds-same-end
slice_bounds-same-end c = let k = plain-inside (plain-span c.in-Some.is c.plain.ensures) in omega arith

pub returns-in_default : goal.returns-in_default
returns-in_default c = plain-nothing c.in_default.is c.plain.ensures c.args.word.now

pub returns : goal.returns
returns c = word-told c.args.s.now c.args.at c.in-Some.from c.in-Some.count (plain-span c.in-Some.is c.plain.ensures) c.args.word.now c.same.result c.same.ensures
