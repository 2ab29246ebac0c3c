-- `by_head` of src/facts.rt meets its contract. Assumes nothing.
use borrow.Author.Tests.{not-true}
use Rattle.narrow.proofs.MarkLaws.{adds-not, head-differs, head_never, head-forces}
use Rattle.narrow.proofs.facts.by_head.Goals as goal

pub returns-then-not-may_be : goal.returns-then-not-may_be
returns-then-not-may_be c = let x = c.args in
    head-differs x.files.now x.room.now x.a.atom x.y x.a.own x.a.variable x.marks.now c.may_be.ensures (not-true c.may_be.result c.if-not-may_be.true-raw)

pub returns-in-Nothing : goal.returns-in-Nothing
returns-in-Nothing c = adds-not c.args.marks.now

pub returns-in-Never : goal.returns-in-Never
returns-in-Never c = let x = c.args in
    head_never x.files.now x.room.now x.a.atom x.y x.a.own x.a.variable x.marks.now c.forced_by.ensures c.in-Never.is

pub returns-in-Candidate : goal.returns-in-Candidate
returns-in-Candidate c = let x = c.args in
    head-forces x.files.now x.room.now x.a.atom x.y x.a.own x.a.variable x.marks.now c.forced_by.ensures c.in-Candidate.is c.mark.ensures
