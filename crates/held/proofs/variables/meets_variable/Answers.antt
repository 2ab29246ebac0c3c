-- `meets_variable` of src/variables.rt meets its contract. Assumes nothing.
use Prim.Native.Nat.{◌-◌}
use mathlib.Core.Path.{sym, ◌∙◌}
use mathlib.Core.Bool.{true}
use lib.Dec.{eqb}
use Rattle.room.specs.Spot.{bindings_at}
use Rattle.mentions.specs.Open.{asked}
use Rattle.held.proofs.VariableLaws.{asked-new}
use Rattle.held.proofs.MeetLaws.{variable-none, variable-within, variable-asked, variable-past}
use native.Mathlib.Omega.{arith}
use Rattle.held.proofs.variables.meets_variable.Goals as goal

pub returns-in_default : goal.returns-in_default
returns-in_default c = let x = c.args in
    let bs = bindings_at x.room.now x.x in
    variable-none x.s.now x.at x.depth x.nest (asked x.own bs x.also x.v) (asked x.own bs true x.v) (omega arith) c.plus.ensures c.number.result c.number.ensures c.past.result c.in_default.is c.ended.ensures c.past.ensures

pub returns-then-i-depth : goal.returns-then-i-depth
returns-then-i-depth c = let x = c.args in
    let bs = bindings_at x.room.now x.x in
    variable-within x.s.now x.at x.depth x.nest (asked x.own bs x.also x.v) (asked x.own bs true x.v) (omega arith) c.plus.ensures c.number.result c.number.ensures c.in-Some.is c.past_variable.result c.if-i-depth.true c.ended-then-i-depth.ensures c.past_variable.ensures

pub returns-then-asks : goal.returns-then-asks
returns-then-asks c = let x = c.args in
    let bs = bindings_at x.room.now x.x in
    variable-asked x.s.now x.at x.depth x.nest (asked x.own bs x.also x.v) (asked x.own bs true x.v) (omega arith) c.plus.ensures c.number.result c.number.ensures c.in-Some.is c.if-i-depth.false (sym c.if-asks.true ∙ c.asks.ensures)

pub returns : goal.returns
returns c = let x = c.args in
    let bs = bindings_at x.room.now x.x in
    let i = c.in-Some.i - x.depth in
    let none = sym c.if-asks.false ∙ c.asks.ensures in
    variable-past x.s.now x.at x.depth x.nest (asked x.own bs x.also x.v) (asked x.own bs true x.v) (omega arith) c.plus.ensures c.number.result c.number.ensures c.in-Some.is c.if-i-depth.false c.past_variable-2.result (eqb i x.v) none (asked-new x.own bs i x.also x.v none) c.ended-2.ensures c.past_variable-2.ensures
