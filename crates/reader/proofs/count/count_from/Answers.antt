-- The members of a list, one after the other.
use mathlib.Core.Path.{sym, ◌∙◌}
use borrow.Author.Tests.{eqb-true, eqb-false, not-true, not-false}
use Rattle.reader.proofs.CountLaws.{counting-start, counting-over, counting-none, counting-next, counting-end, past-further}
use native.Mathlib.Omega.{arith}
use Rattle.reader.proofs.count.count_from.Goals as goal

pub loop-at-init : goal.loop-at-init
loop-at-init c = (omega arith, λ xs h l. counting-start h l)

pub returns-then-n-eq-MOST : goal.returns-then-n-eq-MOST
returns-then-n-eq-MOST c = λ xs h l. counting-over (c.loop-at.invariant.1 xs h l) (eqb-false _ _ (sym c.closes.ensures ∙ not-true _ c.loop-at-test.true-raw)) c.if-n-eq-MOST.true

pub returns-in_default : goal.returns-in_default
returns-in_default c = λ xs h l. counting-none (c.loop-at.invariant.1 xs h l) (eqb-false _ _ (sym c.closes.ensures ∙ not-true _ c.loop-at-test.true-raw)) c.in_default.ensures

pub loop-at-smaller : goal.loop-at-smaller
loop-at-smaller c = let k = past-further c.in-Some.ensures in omega arith

pub loop-at-preserved : goal.loop-at-preserved
loop-at-preserved c = (omega arith, λ xs h l. counting-next (c.loop-at.invariant.1 xs h l) (eqb-false _ _ (sym c.closes.ensures ∙ not-true _ c.loop-at-test.true-raw)) (omega arith) c.in-Some.ensures)

pub returns : goal.returns
returns c = λ xs h l. counting-end (c.loop-at.invariant.1 xs h l) (eqb-true _ _ (sym c.closes.ensures ∙ not-false _ c.loop-at-test.false-raw))
