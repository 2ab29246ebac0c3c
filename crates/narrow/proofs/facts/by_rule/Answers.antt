-- `by_rule` of src/facts.rt meets its contract. Assumes nothing.
use Rattle.narrow.proofs.MarkLaws.{adds-not}
use Rattle.narrow.proofs.NarrowLaws.{rule-headless, rule-other, rule-fact}
use native.Mathlib.Omega.{arith}
use Rattle.narrow.proofs.facts.by_rule.Goals as goal

pub returns-then-p-eq0 : goal.returns-then-p-eq0
returns-then-p-eq0 c = let x = c.args in
    rule-headless x.files.now x.room.now x.a.atom x.a.own x.a.variable x.a.predicate x.a.arguments x.k x.marks.now c.has_head.result c.rule_spot-y.ensures c.has_head.ensures

pub returns-then-p-a : goal.returns-then-p-a
returns-then-p-a c = let x = c.args in
    rule-other x.files.now x.room.now x.a.atom x.a.own x.a.variable x.a.predicate x.a.arguments x.k x.marks.now c.word-p.ensures c.if-p-eq0.false c.if-p-a.true

pub returns-then-word-eq0 : goal.returns-then-word-eq0
returns-then-word-eq0 c = adds-not c.args.marks.now

pub returns : goal.returns
returns c = let x = c.args in
    rule-fact x.files.now x.room.now x.a.atom x.a.own x.a.variable x.a.predicate x.a.arguments x.k x.marks.now c.word-p.ensures c.if-p-eq0.false c.by_fact.result c.word.ensures (λ e. omega (arith, e)) c.rule_spot-y-2.ensures c.word-kept.ensures c.by_fact.ensures
