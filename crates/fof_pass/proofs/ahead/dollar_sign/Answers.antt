-- `dollar_sign` of src/ahead.rt meets its contract. Assumes nothing.
use mathlib.Core.Path.{refl}
use Rattle.fof_pass.proofs.AheadLaws.{dollar-hit, dollar-miss}
use Rattle.fof_pass.proofs.ahead.dollar_sign.Goals as goal

pub returns-then-same : goal.returns-then-same
returns-then-same c = let a = c.args in dollar-hit a.w.now refl c.if-same.true c.same.ensures

pub returns : goal.returns
returns c = let a = c.args in dollar-miss a.w.now refl c.if-same.false c.same.ensures
