-- `by_fact` of src/facts.rt meets its contract. Assumes nothing.
use Rattle.narrow.proofs.FactLaws.{fact-by-head, fact-never, fact-is}
use Prim.Native.Nat.{ℕ}
use mathlib.Core.Path.{◌∙◌, ap}
use lib.ListN.{set}
use native.Mathlib.Omega.{arith}
use Rattle.narrow.proofs.facts.by_fact.Goals as goal

pub returns-then-a-eq0 : goal.returns-then-a-eq0
returns-then-a-eq0 c = let x = c.args in
    fact-by-head x.files.now x.room.now x.a.atom x.y x.a.own x.a.variable x.a.arguments x.kept x.marks.now c.by_head.ensures

pub returns-then-kept-eq0 : goal.returns-then-kept-eq0
returns-then-kept-eq0 c = let x = c.args in
    fact-by-head x.files.now x.room.now x.a.atom x.y x.a.own x.a.variable x.a.arguments x.kept x.marks.now c.by_head-then-kept-eq0.ensures

pub returns-in-Nothing : goal.returns-in-Nothing
returns-in-Nothing c = let x = c.args in
    fact-by-head x.files.now x.room.now x.a.atom x.y x.a.own x.a.variable x.a.arguments x.kept x.marks.now c.by_head-in-Nothing.ensures

pub returns-in-Never : goal.returns-in-Never
returns-in-Never c = let x = c.args in
    fact-never x.files.now x.room.now x.a.atom x.y x.a.own x.a.variable x.a.arguments x.kept x.marks.now c.if-a-eq0.false c.if-kept-eq0.false c.between.result c.between.ensures c.in-Never.is

pub returns-in-Candidate : goal.returns-in-Candidate
returns-in-Candidate c = let x = c.args in
    fact-is x.files.now x.room.now x.a.atom x.y x.a.own x.a.variable x.a.arguments x.kept x.marks.now c.if-a-eq0.false c.if-kept-eq0.false c.between.result c.between.ensures c.in-Candidate.is (c.mark.ensures ∙ ap (λ (m : ℕ). set x.marks.now m 1) (omega arith))
