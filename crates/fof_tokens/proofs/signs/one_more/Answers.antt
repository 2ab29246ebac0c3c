-- `one_more` (src/signs.rt): the byte is there, another is, or the text ends.
use Rattle.fof_tokens.proofs.SignLaws.{one-more-end, one-more-other, one-more-same}
use Rattle.fof_tokens.proofs.signs.one_more.Goals as goal

pub returns-then-text-at : goal.returns-then-text-at
returns-then-text-at c = let x = c.args in one-more-end x.short x.long x.more x.at x.text.now c.if-text-at.true

pub returns-then-text-at-2 : goal.returns-then-text-at-2
returns-then-text-at-2 c = let x = c.args in one-more-other x.short x.long x.more x.at x.text.now c.if-text-at-2.true

pub returns : goal.returns
returns c = let x = c.args in one-more-same x.short x.long x.more x.at x.text.now c.if-text-at.false c.if-text-at-2.false
