-- `is_idle` of src/variables.rt meets its contract. Assumes nothing.
use mathlib.Core.Bool.{false≢true}
use Rattle.held.proofs.VariableLaws.{asked-idle}
use Rattle.held.proofs.variables.is_idle.Goals as goal

pub returns-then-also : goal.returns-then-also
returns-then-also c = λ e. absurd (false≢true e)

pub returns : goal.returns
returns c = let x = c.args in
    asked-idle x.own x.also c.if-also.false
