-- `enter_all` meets its contract.
use Rattle.enter.proofs.EnterLaws.{word-other, word-same, one_alike, says-as, all-other, all_same, all-never}
use Rattle.enter.proofs.enter.enter_all.Goals as goal

pub returns-then-rank : goal.returns-then-rank
returns-then-rank c = λ ss nest ds us P o h bs g q x. all-other q x c.word_there-there.ensures (word-other c.rank.ensures c.rank-2.ensures c.if-rank.true)

pub returns-then-p-ge64 : goal.returns-then-p-ge64
returns-then-p-ge64 c = λ ss nest ds us P o h bs g q x. absurd (all-never x c.if-p-ge64.true)

pub returns : goal.returns
returns c = λ ss nest ds us P o h bs g q x. says-as c.push.ensures (one_alike c.plus.ensures c.bound.ensures) (all_same q x c.word_there-there.ensures (word-same c.rank.ensures c.rank-2.ensures c.if-rank.false))
