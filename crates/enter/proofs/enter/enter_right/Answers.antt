-- `enter_right` meets its contract.
use mathlib.Core.Path.{sym}
use Rattle.sexp.proofs.AnswerLaws.{past_next, past-nothing}
use Rattle.uses.proofs.WalkLaws.{enter-is}
use Rattle.enter.proofs.EnterLaws.{word-other, word-same, one_alike, right-other, right-same, right-never}
use Rattle.enter.proofs.enter.enter_right.Goals as goal

pub returns-then-rank : goal.returns-then-rank
returns-then-rank c = λ ss room nest ds us P o h bs g q x. right-other q x c.word_there-there.ensures (word-other c.rank.ensures c.rank-2.ensures c.if-rank.true)

pub returns-in_err-n : goal.returns-in_err-n
returns-in_err-n c = rw c.from_residual.ensures (λ ss room nest ds us P o h bs g q x. absurd (right-never q x c.word_there-there.ensures (word-same c.rank.ensures c.rank-2.ensures c.if-rank.false) (past-nothing c.in_err-n.was c.past_part.ensures)))

pub returns : goal.returns
returns c = λ ss room nest ds us P o h bs g q x. enter-is (one_alike (sym c.plus.ensures) (sym c.within.ensures)) (right-same q x c.word_there-there.ensures (word-same c.rank.ensures c.rank-2.ensures c.if-rank.false) (past_next c.in_ok-n.was c.past_part.ensures))
