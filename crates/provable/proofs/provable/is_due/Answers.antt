-- `is_due` of src/provable.rt meets its contract. Assumes nothing.
use mathlib.Core.Path.{refl, sym, subst}
use mathlib.Core.Bool.{true, false, not}
use Prim.Native.Nat.{ℕ}
use Rattle.std.specs.Prelude.{Option, is_some, unwrap_or}
use Rattle.room.specs.Spot.{bindings_at}
use Rattle.mentions.specs.Open.{asked}
use Rattle.held.proofs.MeetLaws.{met-asked, met-past, met-nothing}
use Rattle.proving.specs.Filling.{Dues}
use Rattle.proving.proofs.FillLaws.{due-waits, due-not, due-new}
use Rattle.provable.proofs.provable.is_due.Goals as goal

pub returns-in_default : goal.returns-in_default
returns-in_default c = let x = c.args in
    subst (λ (a : Option ℕ). Dues x.files.now x.room.now x.w x.own (is_some a) (unwrap_or a 0) (not c.holds.result)) (sym c.in_default.is)
    (due-not x.own false 0 c.holds.result c.part-s.ensures.bytes c.holds.ensures)

pub returns-in-Asked : goal.returns-in-Asked
returns-in-Asked c = let x = c.args in
    let v = c.in-Some.v in
    let bs = bindings_at x.room.now x.w.goal in
    let p = asked x.own bs false v in
    let o = asked x.own bs true v in
    subst (λ (a : Option ℕ). Dues x.files.now x.room.now x.w x.own (is_some a) (unwrap_or a 0) false) (sym c.in-Some.is)
    (due-waits x.own true v c.part-s.ensures.bytes (met-asked c.part-s.result.now 0 0 64 p o c.meets.result c.in-Asked.is c.meets.ensures) refl)

pub returns-in-Past : goal.returns-in-Past
returns-in-Past c = let x = c.args in
    let v = c.in-Some.v in
    let bs = bindings_at x.room.now x.w.goal in
    let p = asked x.own bs false v in
    let o = asked x.own bs true v in
    let m = met-past c.part-s.result.now 0 0 64 p o c.meets.result c.in-Past.is c.meets.ensures in
    subst (λ (a : Option ℕ). Dues x.files.now x.room.now x.w x.own (is_some a) (unwrap_or a 0) c.in-Past.with) (sym c.in-Some.is)
    (due-new x.own true v c.part-s.ensures.bytes m.none refl refl m.others)

pub returns-in-Nothing : goal.returns-in-Nothing
returns-in-Nothing c = let x = c.args in
    let v = c.in-Some.v in
    let bs = bindings_at x.room.now x.w.goal in
    let p = asked x.own bs false v in
    let o = asked x.own bs true v in
    let m = met-nothing c.part-s.result.now 0 0 64 p o c.meets.result c.in-Nothing.is c.meets.ensures in
    subst (λ (a : Option ℕ). Dues x.files.now x.room.now x.w x.own (is_some a) (unwrap_or a 0) false) (sym c.in-Some.is)
    (due-new x.own true v c.part-s.ensures.bytes (m p) refl refl (m o))
