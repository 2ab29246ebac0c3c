-- `bind` of src/uses.rt meets its contract. Assumes nothing.
use mathlib.Core.Path.{refl, sym, ◌∙◌}
use borrow.Author.Tests.{not-true, not-false}
use native.Mathlib.Omega.{arith}
use Rattle.uses.proofs.uses.bind.Goals as goal

pub returns-then-room-top : goal.returns-then-room-top
returns-then-room-top c = let x = c.args in
    let m = c.if-room-top.true in
    (refl, λ l. absurd (omega arith))

pub returns-then-not-may_use : goal.returns-then-not-may_use
returns-then-not-may_use c = (refl, λ l. sym c.may_use.ensures ∙ not-true c.may_use.result c.if-not-may_use.true-raw)

pub returns : goal.returns
returns c = let m = c.if-room-top.false in
    (m, (sym c.may_use.ensures ∙ not-false c.may_use.result c.if-not-may_use.false-raw, c.push.ensures))
