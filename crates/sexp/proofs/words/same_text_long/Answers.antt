-- `same_text_long` meets its contract: the word is the plain string at the other offset.
use Rattle.sexp.proofs.AnswerLaws.{plain-span, plain-nothing, plain-inside}
use Rattle.sexp.proofs.WordsAtLaws.{shared-told}
use native.Mathlib.Omega.{arith}
use Rattle.sexp.proofs.words.same_text_long.Goals as goal

pub slice_bounds-is_word-end : goal.slice_bounds-is_word-end
slice_bounds-is_word-end c = let k = plain-inside (plain-span c.in-Some.is c.plain.ensures) in omega arith

pub returns-in_default : goal.returns-in_default
returns-in_default c = λ h. plain-nothing c.in_default.is c.plain.ensures h.octets h.there

pub returns : goal.returns
returns c = shared-told c.args.t.now c.args.j c.in-Some.from c.in-Some.count (plain-span c.in-Some.is c.plain.ensures) c.args.s.now c.args.i c.is_word.result c.is_word.ensures
