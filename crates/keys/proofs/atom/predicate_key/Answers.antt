-- `predicate_key` of src/atom.rt meets its contract. Assumes nothing.
use Rattle.keys.proofs.AtomLaws.{predicate-there}
use Rattle.keys.proofs.atom.predicate_key.Goals as goal

pub returns : goal.returns
returns c = let x = c.args in
    predicate-there x.files.now x.x c.predicate_of.result c.part.ensures.bytes c.predicate_of.ensures
