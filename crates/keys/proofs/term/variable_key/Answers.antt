-- `variable_key` of src/term.rt meets its contract. Assumes nothing.
use Rattle.keys.proofs.WalkLaws.{variable-lost, variable-told}
use Rattle.keys.proofs.term.variable_key.Goals as goal

pub returns-in-None : goal.returns-in-None
returns-in-None c = let x = c.args in
    variable-lost x.t.now x.room.now x.x 0 c.in-None.is c.number.ensures

pub returns-in-Some : goal.returns-in-Some
returns-in-Some c = let x = c.args in
    variable-told x.t.now x.room.now x.x c.in-Some.is c.number.ensures c.variable.ensures c.binding_key.ensures
