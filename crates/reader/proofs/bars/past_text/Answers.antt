-- Past the plain string at an offset.
use Rattle.reader.proofs.BarsLaws.{text-ends, text-nowhere}
use Rattle.reader.proofs.bars.past_text.Goals as goal

pub returns-in-None : goal.returns-in-None
returns-in-None c = text-nowhere c.args.s.now c.args.at c.in-None.ensures

pub returns-in-Some : goal.returns-in-Some
returns-in-Some c = text-ends c.args.s.now c.args.at c.in-Some.from c.in-Some.count c.in-Some.ensures
