-- The word of some octets: more than five are none, and fewer have their number.
use Rattle.reader.proofs.KeyLaws.{too_long}
use Rattle.reader.proofs.words.word_of.Goals as goal

pub returns-then-w-gt-LONGEST : goal.returns-then-w-gt-LONGEST
returns-then-w-gt-LONGEST c = too_long c.args.w.now c.if-w-gt-LONGEST.true
