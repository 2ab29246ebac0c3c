-- `put_decimal` of src/lib.rt meets its contract. Assumes nothing.
use Rattle.pen.proofs.NumeralLaws.{puts-small, puts-decimal}
use Rattle.pen.proofs.+put_decimal.Goals as goal

pub returns-then-n-lt10 : goal.returns-then-n-lt10
returns-then-n-lt10 t c = puts-small c.args.n c.if-n-lt10.true c.put_digit.ensures

pub returns : goal.returns
returns t c = puts-decimal c.args.n c.if-n-lt10.false c.put_decimal-m.ensures c.put_digit-2.ensures
