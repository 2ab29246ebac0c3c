-- The first candidate for a `some`, read where the search of it left it. Assumes nothing.
use borrow.Author.Rules.{rules}
use borrow.Author.Tests.{not-true, not-false}
use Rattle.drawing.proofs.SomeLaws as laws
use Rattle.drawing.proofs.first.first_with.Goals as goal

pub returns-then-not-prove_some : goal.returns-then-not-prove_some
returns-then-not-prove_some c = let u = c.prove_some in
    laws.with_none u.ensures.0 (not-true u.result c.if-not-prove_some.true-raw)

pub returns : goal.returns
returns c = let u = c.prove_some in
    laws.with-left u.ensures.0 (not-false u.result c.if-not-prove_some.false-raw) u.ensures.1 c.variable.ensures c.number.ensures
