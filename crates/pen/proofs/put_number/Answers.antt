-- `put_number` of src/lib.rt meets its contract. Assumes nothing.
use Rattle.pen.proofs.NumeralLaws.{puts-numeral}
use Rattle.pen.proofs.put_number.Goals as goal

pub returns : goal.returns
returns c = puts-numeral c.args.i c.digits.result c.digits.ensures c.put_decimal-m.ensures c.put_byte-m.ensures c.put_decimal.ensures
