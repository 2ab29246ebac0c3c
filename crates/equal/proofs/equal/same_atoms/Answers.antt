-- `same_atoms` of src/equal.rt meets its contract. Assumes nothing.
use Rattle.equal.proofs.RestLaws.{atoms-same, atoms-differ, atoms-rest}
use Rattle.equal.proofs.equal.same_atoms.Goals as goal

pub returns-in-Same : goal.returns-in-Same
returns-in-Same c = let x = c.args in
    atoms-same x.files.now x.room.now x.x x.y c.after.result c.after.ensures c.in-Same.is

pub returns-in-Differ : goal.returns-in-Differ
returns-in-Differ c = let x = c.args in
    atoms-differ x.files.now x.room.now x.x x.y c.after.result c.after.ensures c.in-Differ.is

pub returns-in-Rest : goal.returns-in-Rest
returns-in-Rest c = let x = c.args in
    atoms-rest x.files.now x.room.now x.x x.y c.after.result c.same_rest.result c.after.ensures c.in-Rest.is c.same_rest.ensures
