-- `number_after` of src/table.rt meets its contract.
use Rattle.start.proofs.HighLaws.{number-told}
use Rattle.start.proofs.table.number_after.Goals as goal

pub returns : goal.returns
returns c = rw c.unwrap_or.ensures (number-told c.number.result c.number.ensures)
