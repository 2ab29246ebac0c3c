-- The head of an expression, by whether it opens a list.
use mathlib.Core.Path.{sym, ◌∙◌}
use borrow.Author.Tests.{eqb-true, eqb-false}
use Rattle.sexp.proofs.StandLaws.{byte_inside}
use Rattle.reader.proofs.ShapeLaws.{head-open}
use native.Mathlib.Omega.{arith}
use Rattle.reader.proofs.shape.head_at.Goals as goal

pub list_head-requires : goal.list_head-requires
list_head-requires c = byte_inside c.args.s.now c.args.at 40 (eqb-true _ _ (sym c.opens.ensures ∙ c.if-opens.true)) (omega arith)

pub returns-then-opens : goal.returns-then-opens
returns-then-opens c = head-open c.args.s.now c.args.at c.args.kind c.list_head.result (eqb-true _ _ (sym c.opens.ensures ∙ c.if-opens.true)) c.list_head.ensures

pub returns : goal.returns
returns c = λ e g. c.text_head.ensures e (eqb-false _ _ (sym c.opens.ensures ∙ c.if-opens.false)) g
