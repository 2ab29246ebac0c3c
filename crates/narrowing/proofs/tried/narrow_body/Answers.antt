-- `narrow_body` of src/tried.rt meets its contract. Assumes nothing.
use borrow.Author.Tests.{not-false}
use Rattle.narrowing.proofs.TriedLaws.{body-nothing, body-narrowed}
use Rattle.narrowing.proofs.tried.narrow_body.Goals as goal

pub returns-then-not-p : goal.returns-then-not-p
returns-then-not-p c = body-nothing c.args.v

pub returns : goal.returns
returns c = let x = c.args in body-narrowed x.v (not-false x.p.body c.if-not-p.false) c.body_place.ensures c.narrow_goal.ensures.1
