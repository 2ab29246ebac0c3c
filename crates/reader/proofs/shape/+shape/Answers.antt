-- The shape of an expression of a kind, and of the members of a list as they are due.
use mathlib.Core.Path.{sym, ap, ◌∙◌}
use Rattle.std.specs.Prelude.{Ok}
use Rattle.std.proofs.lemmas.Result.{err_from_is_err_and}
use borrow.Author.Tests.{eqb-true, eqb-false}
use Rattle.reader.proofs.ShapeLaws.{head-list, head-flat, head-text, head-deep, left-start, left-closed, left_over, left-wrong, left-next, left-inside}
use native.Mathlib.Omega.{arith}
use Rattle.reader.proofs.shape.+shape.Goals as goal

pub shape_at-returns-then-nest-eq0 : goal.shape_at-returns-then-nest-eq0
shape_at-returns-then-nest-eq0 t c = λ e g n. head-flat (head-list c.args.s.now c.args.at c.args.kind e c.head_at.result (c.in_ok-to.was ∙ ap Ok c.in-List.is) (c.head_at.ensures e g)) n c.if-nest-eq0.true

pub shape_at-returns-in-Text : goal.shape_at-returns-in-Text
shape_at-returns-in-Text t c = λ e g n. head-text c.args.s.now c.args.at c.args.kind e c.head_at.result (c.in_ok-to.was ∙ ap Ok c.in-Text.is) (c.head_at.ensures e g)

pub shape_at-returns-else-nest-eq0 : goal.shape_at-returns-else-nest-eq0
shape_at-returns-else-nest-eq0 t c = λ e g n. head-deep (head-list c.args.s.now c.args.at c.args.kind e c.head_at.result (c.in_ok-to.was ∙ ap Ok c.in-List.is) (c.head_at.ensures e g)) n c.shape_in.ensures

pub shape_in-loop-i-init : goal.shape_in-loop-i-init
shape_in-loop-i-init t c = λ xs h n. left-start h n

pub shape_in-returns-then-closes : goal.shape_in-returns-then-closes
shape_in-returns-then-closes t c = λ xs h n. c.end.ensures ∙ left-closed (c.loop-i.invariant xs h n) (eqb-true _ _ (sym c.closes.ensures ∙ c.if-closes.true))

pub shape_in-returns-in_default : goal.shape_in-returns-in_default
shape_in-returns-in_default t c = λ xs h n. left_over (c.loop-i.invariant xs h n) (eqb-false _ _ (sym c.closes.ensures ∙ c.if-closes.false)) c.in_default.ensures

pub shape_in-returns-in_err-to : goal.shape_in-returns-in_err-to
shape_in-returns-in_err-to t c = λ xs h n. let p = err_from_is_err_and c.from_residual.result c.from_residual.ensures.1 in rw (p.1, p.2) (left-wrong (c.loop-i.invariant xs h n) (eqb-false _ _ (sym c.closes.ensures ∙ c.if-closes.false)) c.in-Some.ensures c.in_err-to.ensures)

pub shape_in-returns-then-to-i : goal.shape_in-returns-then-to-i
shape_in-returns-then-to-i t c = λ xs h n.
    let l = (left-next (c.loop-i.invariant xs h n) (eqb-false _ _ (sym c.closes.ensures ∙ c.if-closes.false)) c.in-Some.ensures c.in_ok-to.ensures).0 in
    absurd (omega arith)

pub shape_in-loop-i-preserved : goal.shape_in-loop-i-preserved
shape_in-loop-i-preserved t c = λ xs h n. (left-next (c.loop-i.invariant xs h n) (eqb-false _ _ (sym c.closes.ensures ∙ c.if-closes.false)) c.in-Some.ensures c.in_ok-to.ensures).1

pub shape_in-returns : goal.shape_in-returns
shape_in-returns t c = λ xs h n. let l = left-inside (c.loop-i.invariant xs h n) in absurd (omega arith)
