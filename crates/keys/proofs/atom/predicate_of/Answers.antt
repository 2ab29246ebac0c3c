-- `predicate_of` of src/atom.rt meets its contract. Assumes nothing.
use Rattle.keys.proofs.AtomLaws.{predicate-lost, predicate-made}
use Rattle.keys.proofs.atom.predicate_of.Goals as goal

pub returns-in_default : goal.returns-in_default
returns-in_default c = predicate-lost c.args.t.now 0 c.in_default.is c.past.ensures

pub returns : goal.returns
returns c = predicate-made c.args.t.now c.even.result c.in-Some.is c.past.ensures c.text_key.ensures c.row_key.ensures c.even.ensures
