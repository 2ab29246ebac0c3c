-- `parameter_key` of src/term.rt meets its contract. Assumes nothing.
use Rattle.keys.proofs.WalkLaws.{parameter-lost, parameter-told}
use Rattle.keys.proofs.term.parameter_key.Goals as goal

pub returns-in-None : goal.returns-in-None
returns-in-None c = parameter-lost c.args.t.now 0 c.in-None.is c.number.ensures

pub returns-in-Some : goal.returns-in-Some
returns-in-Some c = parameter-told c.args.t.now c.in-Some.is c.number.ensures c.hold.ensures c.mix.ensures
