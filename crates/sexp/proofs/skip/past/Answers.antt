-- `past` meets its contract: where no list opens, it does not matter how deep lists may nest.
use mathlib.Core.Path.{sym, ◌∙◌}
use borrow.Author.Tests.{eqb-true, eqb-false}
use Rattle.sexp.proofs.SkipLaws.{past-flat, past-deep, pair-past}
use Rattle.sexp.proofs.skip.past.Goals as goal

pub returns-then-not-opens : goal.returns-then-not-opens
returns-then-not-opens c = let x = c.args in past-flat x.s.now x.at x.nest c.past_string.result (eqb-false _ _ (sym c.opens.ensures ∙ c.if-not-opens.true)) c.past_string.ensures

pub returns-then-nest-eq0 : goal.returns-then-nest-eq0
returns-then-nest-eq0 c = let x = c.args in past-deep x.s.now x.at x.nest (eqb-true _ _ (sym c.opens.ensures ∙ c.if-not-opens.false)) c.if-nest-eq0.true

pub pair_end-requires : goal.pair_end-requires
pair_end-requires c = eqb-true _ _ (sym c.opens.ensures ∙ c.if-not-opens.false)

pub returns-in-Some : goal.returns-in-Some
returns-in-Some c = let x = c.args in pair-past x.s.now x.at x.nest c.in-Some.n c.if-nest-eq0.false c.in-Some.ensures

pub past_list-requires : goal.past_list-requires
past_list-requires c = eqb-true _ _ (sym c.opens.ensures ∙ c.if-not-opens.false)
