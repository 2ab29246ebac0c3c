-- `holds` of src/variables.rt meets its contract. Assumes nothing.
use mathlib.Core.Bool.{true, false}
use Rattle.room.specs.Spot.{bindings_at}
use Rattle.mentions.specs.Open.{asked}
use Rattle.held.proofs.VariableLaws.{held-never, holding}
use Rattle.held.proofs.MeetLaws.{met-asked, met-past, met-nothing}
use Rattle.held.proofs.variables.holds.Goals as goal

pub returns-then-is_idle : goal.returns-then-is_idle
returns-then-is_idle c = let x = c.args in
    let bs = bindings_at x.room.now x.x in
    let p = asked x.own bs x.also x.v in
    holding x.s.now x.at x.depth x.nest p false (held-never x.s.now x.at x.depth x.nest p (c.is_idle.ensures c.if-is_idle.true bs x.v))

pub returns-in-Asked : goal.returns-in-Asked
returns-in-Asked c = let x = c.args in
    let bs = bindings_at x.room.now x.x in
    let p = asked x.own bs x.also x.v in
    met-asked x.s.now x.at x.depth x.nest p (asked x.own bs true x.v) c.meets.result c.in-Asked.is c.meets.ensures

pub returns-in-Past : goal.returns-in-Past
returns-in-Past c = let x = c.args in
    let bs = bindings_at x.room.now x.x in
    let p = asked x.own bs x.also x.v in
    (met-past x.s.now x.at x.depth x.nest p (asked x.own bs true x.v) c.meets.result c.in-Past.is c.meets.ensures).none

pub returns-in-Nothing : goal.returns-in-Nothing
returns-in-Nothing c = let x = c.args in
    let bs = bindings_at x.room.now x.x in
    let p = asked x.own bs x.also x.v in
    met-nothing x.s.now x.at x.depth x.nest p (asked x.own bs true x.v) c.meets.result c.in-Nothing.is c.meets.ensures p
