-- `same_predicate` of src/predicate.rt meets its contract. Assumes nothing.
use borrow.Author.Tests.{not-true, not-false}
use Rattle.heads.proofs.PredicateLaws.{named-otherwise, name-lost, name-lost-too, named-alike}
use native.Mathlib.Omega.{arith}
use borrow.Author.Rules.{rules}
use Rattle.heads.proofs.predicate.same_predicate.Goals as goal

pub returns-then-not-same_text : goal.returns-then-not-same_text
returns-then-not-same_text c = let x = c.args in
    named-otherwise x.s.now x.t.now c.same_text.ensures (not-true c.same_text.result c.if-not-same_text.true-raw)

pub returns-in_default : goal.returns-in_default
returns-in_default c = let x = c.args in
    name-lost x.s.now x.t.now c.past.ensures c.in_default.is

pub returns-in_default-past : goal.returns-in_default-past
returns-in_default-past c = let x = c.args in
    name-lost-too x.s.now x.t.now c.past-2.ensures c.in_default-past.is

pub returns : goal.returns
returns c = let x = c.args in
    named-alike x.s.now x.t.now c.same_text.ensures (not-false c.same_text.result c.if-not-same_text.false-raw) c.past.ensures c.in-Some.is c.past-2.ensures c.in-Some-past.is c.same_number.ensures
