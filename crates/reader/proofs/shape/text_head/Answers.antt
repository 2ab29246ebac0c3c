-- The head of an expression that opens no list.
use Rattle.sexp.proofs.AnswerLaws.{plain-inside}
use Rattle.reader.proofs.ShapeLaws.{text-yes, text-no, text-none}
use native.Mathlib.Omega.{arith}
use Rattle.reader.proofs.shape.text_head.Goals as goal

pub slice_bounds-is_text-end : goal.slice_bounds-is_text-end
slice_bounds-is_text-end c = let k = plain-inside c.in-Some.ensures in omega arith

pub returns-then-is_text : goal.returns-then-is_text
returns-then-is_text c = λ e o g. text-yes c.args.s.now c.args.at c.args.kind c.in-Some.ensures c.is_text.ensures c.if-is_text.true e g

pub returns-in_default : goal.returns-in_default
returns-in_default c = λ e o g. text-none c.args.s.now c.args.at c.args.kind c.in_default.ensures e o g

pub returns : goal.returns
returns c = λ e o g. text-no c.args.s.now c.args.at c.args.kind c.in-Some.ensures c.is_text.ensures c.if-is_text.false e g
