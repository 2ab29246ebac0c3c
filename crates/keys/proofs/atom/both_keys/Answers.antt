-- `both_keys` of src/atom.rt meets its contract. Assumes nothing.
use Rattle.keys.proofs.AtomLaws.{predicate-there, atom-there}
use Rattle.keys.proofs.atom.both_keys.Goals as goal

pub returns : goal.returns
returns c = let x = c.args in
    let r = c.both_of.result in
    let m = c.both_of.ensures in
    (predicate-there x.files.now x.x r.predicate c.part.ensures.bytes m.0, atom-there x.files.now x.x x.room.now r.key c.part.ensures.bytes m.1)
