-- `fill_rules` of src/table.rt meets its contract. Assumes nothing.
use Rattle.start.proofs.TableLaws.{rules-filled}
use native.Mathlib.Omega.{arith}
use borrow.Author.Rules.{rules}
use Rattle.start.proofs.table.fill_rules.Goals as goal

pub returns : goal.returns
returns c = let x = c.args in
    rules-filled x.room.now c.starts-n.new.room c.put.new.room x.rules.now c.starts-n.result c.hold.result c.starts-n.ensures c.hold.ensures c.put.ensures
