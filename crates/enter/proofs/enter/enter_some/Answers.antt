-- `enter_some` meets its contract.
use mathlib.Core.Path.{sym, ap, refl, ◌∙◌}
use lib.ListN.{set}
use borrow.Author.Tests.{not-true, not-false}
use Rattle.harrop.specs.declared.Binding.{Binding}
use Rattle.room.specs.Frame.{held, binding_word}
use Rattle.sexp.proofs.AnswerLaws.{past_next, past-nothing}
use Rattle.sexp.proofs.WordsAtLaws.{number_is, number-nothing}
use Rattle.enter.proofs.EnterLaws.{word-other, word-same, one_alike, says-as, numeral-from, no-numeral-from, ends-from, nothing-from, some-other, some-refused, some-nothing, some-never, some_same}
use Rattle.enter.proofs.enter.enter_some.Goals as goal

pub returns-then-rank : goal.returns-then-rank
returns-then-rank c = λ nest ds us P o h bs g q x. some-other q x c.word_there-there.ensures (word-other c.rank.ensures c.rank-2.ensures c.if-rank.true)

pub returns-then-not-may_use : goal.returns-then-not-may_use
returns-then-not-may_use c = λ nest ds us P o h bs g q x. some-refused q x c.word_there-there.ensures (word-same c.rank.ensures c.rank-2.ensures c.if-rank.false) (numeral-from c.plus-from.ensures (number_is c.in_ok-i.was c.number.ensures)) (sym c.may_use.ensures ∙ not-true _ c.if-not-may_use.true-raw)

pub returns-in_err-i : goal.returns-in_err-i
returns-in_err-i c = rw c.from_residual.ensures (λ nest ds us P o h bs g q x. some-nothing q x c.word_there-there.ensures (word-same c.rank.ensures c.rank-2.ensures c.if-rank.false) (no-numeral-from c.plus-from.ensures (number-nothing c.in_err-i.was c.number.ensures)))

pub returns-in_err-start : goal.returns-in_err-start
returns-in_err-start c = rw c.from_residual-in_err-start.ensures (λ nest ds us P o h bs g q x. absurd (some-never q x (numeral-from c.plus-from.ensures (number_is c.in_ok-i.was c.number.ensures)) (nothing-from c.plus-from.ensures (past-nothing c.in_err-start.was c.past.ensures))))

pub returns : goal.returns
returns c = λ nest ds us P o h bs g q x. says-as (c.push.ensures ∙ ap (λ (b : Binding). set c.args.room.now c.args.w.top (held (binding_word b))) c.candidate.ensures) (one_alike refl c.bound.ensures) (some_same q x c.word_there-there.ensures (word-same c.rank.ensures c.rank-2.ensures c.if-rank.false) (numeral-from c.plus-from.ensures (number_is c.in_ok-i.was c.number.ensures)) (sym c.may_use.ensures ∙ not-false _ c.if-not-may_use.false-raw) (ends-from c.plus-from.ensures (past_next c.in_ok-start.was c.past.ensures)))
