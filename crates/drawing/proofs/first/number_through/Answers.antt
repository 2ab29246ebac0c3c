-- A candidate on the way into a clause, read where the search left it or asked for. Assumes nothing.
use borrow.Author.Rules.{rules}
use Rattle.drawing.proofs.FirstLaws as laws
use Rattle.drawing.proofs.first.number_through.Goals as goal

pub returns-then-located : goal.returns-then-located
returns-then-located c = laws.number-left c.args.nest c.plus.result c.if-located.true c.plus.ensures c.variable.ensures c.number.ensures

pub returns : goal.returns
returns c = laws.number-asked c.args.nest c.if-located.false c.first_through.ensures
