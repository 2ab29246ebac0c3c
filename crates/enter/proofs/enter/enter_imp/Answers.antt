-- `enter_imp` meets its contract.
use mathlib.Core.Path.{ap, ◌∙◌}
use Rattle.sexp.proofs.AnswerLaws.{past_next, past-nothing}
use Rattle.room.specs.Spot.{supposing}
use Rattle.enter.proofs.EnterLaws.{word-other, word-same, one_alike, says-as, imp-other, imp-same, imp-never}
use Rattle.enter.proofs.enter.enter_imp.Goals as goal

pub returns-then-rank : goal.returns-then-rank
returns-then-rank c = λ ss nest ds us P o h bs g q x. imp-other q x c.word_there-there.ensures (word-other c.rank.ensures c.rank-2.ensures c.if-rank.true)

pub returns-in_err-n : goal.returns-in_err-n
returns-in_err-n c = rw c.from_residual.ensures (λ ss nest ds us P o h bs g q x. absurd (imp-never q x c.word_there-there.ensures (word-same c.rank.ensures c.rank-2.ensures c.if-rank.false) (past-nothing c.in_err-n.was c.past_part.ensures)))

pub returns : goal.returns
returns c = λ ss nest ds us P o h bs g q x. says-as (c.suppose.ensures ∙ ap (supposing _ _) c.further.ensures) (one_alike c.plus.ensures c.supposes.ensures) (imp-same q x c.word_there-there.ensures (word-same c.rank.ensures c.rank-2.ensures c.if-rank.false) (past_next c.in_ok-n.was c.past_part.ensures))
