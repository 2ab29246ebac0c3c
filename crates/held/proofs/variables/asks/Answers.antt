-- `asks` of src/variables.rt meets its contract. Assumes nothing.
use Rattle.room.specs.Spot.{bindings_at}
use Rattle.held.proofs.VariableLaws.{asked-open, asked-also, asked-not}
use Rattle.held.proofs.variables.asks.Goals as goal

pub returns-then-is_open : goal.returns-then-is_open
returns-then-is_open c = let x = c.args in
    asked-open x.own (bindings_at x.room.now x.x) x.i x.also x.v c.is_open.ensures c.if-is_open.true

pub returns-then-also : goal.returns-then-also
returns-then-also c = let x = c.args in
    asked-also x.own (bindings_at x.room.now x.x) x.i x.also x.v c.is_open.ensures c.if-is_open.false c.if-also.true

pub returns-else-also : goal.returns-else-also
returns-else-also c = let x = c.args in
    asked-not x.own (bindings_at x.room.now x.x) x.i x.also x.v c.is_open.ensures c.if-is_open.false c.if-also.false
