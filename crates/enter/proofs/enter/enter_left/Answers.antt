-- `enter_left` meets its contract.
use mathlib.Core.Path.{sym}
use Rattle.uses.proofs.WalkLaws.{enter-is}
use Rattle.enter.proofs.EnterLaws.{word-other, word-same, one_alike, left_other, left-same}
use Rattle.enter.proofs.enter.enter_left.Goals as goal

pub returns-then-rank : goal.returns-then-rank
returns-then-rank c = λ ss room nest ds us P o h bs g q x. left_other q x c.word_there-there.ensures (word-other c.rank.ensures c.rank-2.ensures c.if-rank.true)

pub returns : goal.returns
returns c = λ ss room nest ds us P o h bs g q x. enter-is (one_alike (sym c.plus.ensures) (sym c.within.ensures)) (left-same q x c.word_there-there.ensures (word-same c.rank.ensures c.rank-2.ensures c.if-rank.false))
