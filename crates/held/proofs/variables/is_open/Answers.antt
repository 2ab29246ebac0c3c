-- `is_open` of src/variables.rt meets its contract. Assumes nothing.
use Rattle.room.specs.Spot.{bindings_at}
use Rattle.held.proofs.VariableLaws.{open_own, open-other}
use Rattle.held.proofs.variables.is_open.Goals as goal

pub returns-then-i-own : goal.returns-then-i-own
returns-then-i-own c = let x = c.args in
    open_own x.own (bindings_at x.room.now x.x) x.i c.is_unset.result c.if-i-own.true c.variable.ensures c.is_unset.ensures

pub returns : goal.returns
returns c = let x = c.args in
    open-other x.own (bindings_at x.room.now x.x) x.i c.if-i-own.false
