-- `fill_candidates` of src/table.rt meets its contract. Assumes nothing.
use Rattle.start.proofs.TableLaws.{candidates-filled}
use native.Mathlib.Omega.{arith}
use borrow.Author.Rules.{rules}
use Rattle.start.proofs.table.fill_candidates.Goals as goal

pub highests-requires : goal.highests-requires
highests-requires c = c.starts-n.ensures.few

pub returns : goal.returns
returns c = let x = c.args in
    candidates-filled x.room.now c.starts-n.new.room c.put.new.room c.highests.new.room x.terms.now c.starts-n.result c.hold.result c.starts-n.ensures c.hold.ensures c.put.ensures c.highests.ensures
