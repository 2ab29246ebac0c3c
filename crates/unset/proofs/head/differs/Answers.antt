-- `differs` of src/head.rt meets its contract. Assumes nothing.
use Rattle.unset.proofs.HeadLaws.{differs-not, differs-yes}
use Rattle.unset.proofs.head.differs.Goals as goal

pub returns-in-Never : goal.returns-in-Never
returns-in-Never c = let x = c.args in
    differs-yes x.files.now x.room.now x.x x.y x.own c.compare.ensures c.in-Never.is

pub returns-in_default : goal.returns-in_default
returns-in_default c = let x = c.args in
    differs-not x.files.now x.room.now x.x x.y x.own
