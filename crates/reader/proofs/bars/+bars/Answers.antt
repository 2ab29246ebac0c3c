-- The first barred term of an expression, and of the members of a list.
use mathlib.Core.Path.{sym, ap, ◌∙◌}
use Rattle.std.proofs.lemmas.Result.{err_from_is_err_and}
use borrow.Author.Tests.{eqb-true, eqb-false, not-true, not-false}
use Rattle.sexp.proofs.AnswerLaws.{plain-inside}
use Rattle.sexp.proofs.StandLaws.{byte_inside}
use Rattle.packet.specs.declared.Word.{Word}
use Rattle.packet.specs.Barred.{Sort, sort_of}
use Rattle.reader.specs.Bars.{sort_as}
use Rattle.reader.proofs.BarsLaws.{bars-text, bars-flat, bars-empty, entered, bars-variable, bars-parameter, bars-quantifier, bars-other, going_start, going-closed, going-at, going_next, going-inside}
use native.Mathlib.Omega.{arith}
use Rattle.reader.proofs.bars.+bars.Goals as goal

pub bars_at-returns-then-not-opens : goal.bars_at-returns-then-not-opens
bars_at-returns-then-not-opens t c = λ e f g l. bars-text c.args.s.now c.args.at c.past_text.result c.args.holds c.args.n c.past_text.ensures (eqb-false _ _ (sym c.opens.ensures ∙ not-true _ c.if-not-opens.true-raw)) e f g

pub bars_at-returns-then-nest-eq0 : goal.bars_at-returns-then-nest-eq0
bars_at-returns-then-nest-eq0 t c = λ e f g l. bars-flat c.args.s.now c.args.at c.args.nest c.args.holds c.args.n _ (eqb-true _ _ (sym c.opens.ensures ∙ not-false _ c.if-not-opens.false-raw)) c.if-nest-eq0.true e g l

pub bars_at-overflow_add-at : goal.bars_at-overflow_add-at
bars_at-overflow_add-at t c = let k = byte_inside c.args.s.now c.args.at 40 (eqb-true _ _ (sym c.opens.ensures ∙ not-false _ c.if-not-opens.false-raw)) (omega arith) in omega arith

pub bars_at-overflow_add-result : goal.bars_at-overflow_add-result
bars_at-overflow_add-result t c = let k = byte_inside c.args.s.now c.args.at 40 (eqb-true _ _ (sym c.opens.ensures ∙ not-false _ c.if-not-opens.false-raw)) (omega arith) in omega arith

pub bars_at-overflow_add-to : goal.bars_at-overflow_add-to
bars_at-overflow_add-to t c = let k = plain-inside c.in-Some.ensures in omega arith

pub bars_at-slice_bounds-word_of-end : goal.bars_at-slice_bounds-word_of-end
bars_at-slice_bounds-word_of-end t c = let k = plain-inside c.in-Some.ensures in omega arith

pub bars_at-returns-in_default : goal.bars_at-returns-in_default
bars_at-returns-in_default t c = λ e f g l. bars-empty c.args.s.now c.args.at c.args.holds c.args.n (eqb-true _ _ (sym c.opens.ensures ∙ not-false _ c.if-not-opens.false-raw)) c.in_default.ensures e f g

pub bars_at-returns-in-Variable : goal.bars_at-returns-in-Variable
bars_at-returns-in-Variable t c = λ e f g l. bars-variable c.args.holds c.args.n c.number_at-k.result c.number_at-k.ensures c.term_bars.result (entered c.args.s.now c.args.at c.in-Some.from c.in-Some.count c.in-Some.ensures (eqb-true _ _ (sym c.opens.ensures ∙ not-false _ c.if-not-opens.false-raw)) Sort.variable c.sort_of.result c.in-Variable.is (c.sort_of.ensures ∙ ap (λ (w : Word). sort_as (sort_of w)) c.word_of.ensures) e f g) c.term_bars.ensures

pub bars_at-returns-in-Parameter : goal.bars_at-returns-in-Parameter
bars_at-returns-in-Parameter t c = λ e f g l. bars-parameter c.args.holds c.args.n c.number_at-k-in-Parameter.result c.number_at-k-in-Parameter.ensures c.term_bars-in-Parameter.result (entered c.args.s.now c.args.at c.in-Some.from c.in-Some.count c.in-Some.ensures (eqb-true _ _ (sym c.opens.ensures ∙ not-false _ c.if-not-opens.false-raw)) Sort.parameter c.sort_of.result c.in-Parameter.is (c.sort_of.ensures ∙ ap (λ (w : Word). sort_as (sort_of w)) c.word_of.ensures) e f g) c.parameter_ok.result c.parameter_ok.ensures c.term_bars-in-Parameter.ensures

pub bars_at-returns-in-Quantifier : goal.bars_at-returns-in-Quantifier
bars_at-returns-in-Quantifier t c = λ e f g l. bars-quantifier c.args.holds c.args.n c.args.nest (entered c.args.s.now c.args.at c.in-Some.from c.in-Some.count c.in-Some.ensures (eqb-true _ _ (sym c.opens.ensures ∙ not-false _ c.if-not-opens.false-raw)) Sort.quantifier c.sort_of.result c.in-Quantifier.is (c.sort_of.ensures ∙ ap (λ (w : Word). sort_as (sort_of w)) c.word_of.ensures) e f g) l c.bars_in.ensures

pub bars_at-returns-in-Other : goal.bars_at-returns-in-Other
bars_at-returns-in-Other t c = λ e f g l. bars-other c.args.holds c.args.n c.args.nest (entered c.args.s.now c.args.at c.in-Some.from c.in-Some.count c.in-Some.ensures (eqb-true _ _ (sym c.opens.ensures ∙ not-false _ c.if-not-opens.false-raw)) Sort.other c.sort_of.result c.in-Other.is (c.sort_of.ensures ∙ ap (λ (w : Word). sort_as (sort_of w)) c.word_of.ensures) e f g) l c.bars_in-in-Other.ensures

pub bars_in-loop-i-init : goal.bars_in-loop-i-init
bars_in-loop-i-init t c = λ xs t h l. going_start c.args.holds c.args.n t h l

pub bars_in-returns-then-closes : goal.bars_in-returns-then-closes
bars_in-returns-then-closes t c = λ xs t h l. going-closed (c.loop-i.invariant xs t h l) (eqb-true _ _ (sym c.closes.ensures ∙ c.if-closes.true))

pub bars_in-returns-in_err-to : goal.bars_in-returns-in_err-to
bars_in-returns-in_err-to t c = λ xs t h l. let p = err_from_is_err_and c.from_residual.result c.from_residual.ensures.1 in rw (p.1, p.2) (going-at (c.loop-i.invariant xs t h l) (eqb-false _ _ (sym c.closes.ensures ∙ c.if-closes.false)) c.in_err-to.ensures)

pub bars_in-returns-then-to-i : goal.bars_in-returns-then-to-i
bars_in-returns-then-to-i t c = λ xs t h l.
    let k = (going_next (c.loop-i.invariant xs t h l) (eqb-false _ _ (sym c.closes.ensures ∙ c.if-closes.false)) c.in_ok-to.ensures).0 in
    absurd (omega arith)

pub bars_in-loop-i-preserved : goal.bars_in-loop-i-preserved
bars_in-loop-i-preserved t c = λ xs t h l. (going_next (c.loop-i.invariant xs t h l) (eqb-false _ _ (sym c.closes.ensures ∙ c.if-closes.false)) c.in_ok-to.ensures).1

pub bars_in-returns : goal.bars_in-returns
bars_in-returns t c = λ xs t h l. let k = going-inside (c.loop-i.invariant xs t h l) in absurd (omega arith)
