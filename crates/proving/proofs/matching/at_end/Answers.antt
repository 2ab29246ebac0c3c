-- `at_end` of src/matching.rt meets its contract. Assumes nothing.
use mathlib.Core.Bool.{Bool}
use mathlib.Core.Path.{sym, ap, ap₂}
use borrow.Author.Tests.{not-true, not-false}
use Rattle.proving.specs.Matching.{at_end}
use Rattle.proving.proofs.matching.at_end.Goals as goal

pub returns-then-not-ends : goal.returns-then-not-ends
returns-then-not-ends c = let x = c.args in ap (λ (b : Bool). at_end b x.sure) (sym (not-true x.ends c.if-not-ends.true-raw))

pub returns-then-sure : goal.returns-then-sure
returns-then-sure c = let x = c.args in ap₂ at_end (sym (not-false x.ends c.if-not-ends.false-raw)) (sym c.if-sure.true)

pub returns : goal.returns
returns c = let x = c.args in ap₂ at_end (sym (not-false x.ends c.if-not-ends.false-raw)) (sym c.if-sure.false)
