-- `both_of` of src/atom.rt meets its contract. Assumes nothing.
use Rattle.keys.proofs.AtomLaws.{predicate-lost, predicate-made, atom-lost, atom-made}
use Rattle.keys.proofs.atom.both_of.Goals as goal

pub returns-in_default : goal.returns-in_default
returns-in_default c = let x = c.args in
    (predicate-lost x.t.now 0 c.in_default.is c.past.ensures, atom-lost x.t.now x.room.now x.x 0 c.in_default.is c.past.ensures)

pub returns : goal.returns
returns c = let x = c.args in
    let m = c.both_at-b.ensures in
    (predicate-made x.t.now c.even.result c.in-Some.is c.past.ensures c.text_key.ensures m.0 c.even.ensures, atom-made x.t.now x.room.now x.x c.odd.result c.in-Some.is c.past.ensures c.text_key.ensures m.1 c.odd.ensures)
