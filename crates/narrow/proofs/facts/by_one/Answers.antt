-- `by_one` of src/facts.rt meets its contract. Assumes nothing.
use Rattle.narrow.proofs.NarrowLaws.{one-atom, one-headless}
use Rattle.narrow.proofs.facts.by_one.Goals as goal

pub returns-in-Atom : goal.returns-in-Atom
returns-in-Atom c = let x = c.args in
    one-atom x.files.now x.room.now x.a.atom x.a.own x.a.variable x.j x.marks.now c.supposed-y.ensures c.by_head.result c.word_there.result c.word_there.ensures c.in-Atom.is c.by_head.ensures

pub returns-in_default : goal.returns-in_default
returns-in_default c = let x = c.args in
    one-headless x.files.now x.room.now x.a.atom x.a.own x.a.variable x.j x.marks.now c.supposed-y.ensures c.has_head.result c.has_head.ensures
