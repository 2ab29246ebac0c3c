-- `atom_of` of src/atom.rt meets its contract. Assumes nothing.
use Rattle.keys.proofs.AtomLaws.{atom-lost, atom-made}
use Rattle.keys.proofs.atom.atom_of.Goals as goal

pub returns-in_default : goal.returns-in_default
returns-in_default c = let x = c.args in
    atom-lost x.t.now x.room.now x.x 0 c.in_default.is c.past.ensures

pub returns : goal.returns
returns c = let x = c.args in
    atom-made x.t.now x.room.now x.x c.odd.result c.in-Some.is c.past.ensures c.text_key.ensures c.keys_at.ensures c.odd.ensures
