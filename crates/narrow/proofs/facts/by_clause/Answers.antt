-- `by_clause` of src/facts.rt meets its contract. Assumes nothing.
use mathlib.Core.Path.{refl}
use Rattle.narrow.proofs.NarrowLaws.{clause-rule, clause-supposed}
use Rattle.narrow.proofs.facts.by_clause.Goals as goal

pub returns-then-k-n : goal.returns-then-k-n
returns-then-k-n c = let x = c.args in
    clause-rule x.files.now x.room.now x.a.atom x.a.own x.a.variable x.a.predicate x.a.arguments {i = x.k} c.word-n.ensures c.if-k-n.true refl c.by_rule.ensures

pub returns : goal.returns
returns c = let x = c.args in
    clause-supposed x.files.now x.room.now x.a.atom x.a.own x.a.variable x.a.predicate x.a.arguments c.word-n.ensures c.if-k-n.false refl c.by_one.ensures
