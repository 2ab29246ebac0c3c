-- `enter` of src/kept.rt meets its contract. Assumes nothing.
use lib.ListN.{set, length}
use Prim.Native.Nat.{◌+◌, ◌≤◌, min}
use mathlib.Core.Path.{◌≡◌, ap, ◌∙◌}
use Rattle.room.specs.Frame.{held}
use Rattle.table.proofs.EntryLaws.{eight-stored, entered-is}
use native.Mathlib.Omega.{arith}
use borrow.Author.Rules.{rules}
use Rattle.table.proofs.kept.enter.Goals as goal
use Rattle.table.proofs.kept.enter.Goals.{Start}

-- the room is so short that the words of a slot in it have numbers
short : (s : Start) → s.args.at + 16 ≤ length s.args.room.now → min (s.args.at + 8) 18446744073709551615 ≡ s.args.at + 8
short s h = omega arith

pub shape_of-room : goal.shape_of-room
shape_of-room c = c.copy.auto.room ∙ c.put_after-8.auto.room ∙ c.put_after-7.auto.room ∙ c.put_after-6.auto.room ∙ c.put_after-5.auto.room ∙ c.put_after-4.auto.room ∙ c.put_after-3.auto.room ∙ c.put_after-2.auto.room ∙ c.put_after.auto.room

pub returns : goal.returns
returns c = let x = c.args in let a = x.at in let room = x.room.now in
    let r0 = c.put_after.new.room in
    let r1 = c.put_after-2.new.room in
    let r2 = c.put_after-3.new.room in
    let r3 = c.put_after-4.new.room in
    let r4 = c.put_after-5.new.room in
    let r5 = c.put_after-6.new.room in
    let r6 = c.put_after-7.new.room in
    let r7 = c.put_after-8.new.room in
    λ h. c.copy.ensures
    ∙ entered-is room r7 x.x x.supposed x.parameters a _
    (eight-stored room r0 r1 r2 r3 r4 r5 r6 r7 a _ _ _ _ _ _ _ _
    (c.put_after.ensures ∙ ap (set room (a + 0)) c.from.ensures)
    (c.put_after-2.ensures ∙ ap (set r0 (a + 1)) c.hold.ensures)
    (c.put_after-3.ensures ∙ ap (set r1 (a + 2)) c.hold-2.ensures)
    (c.put_after-4.ensures ∙ ap (set r2 (a + 3)) (c.hold-3.ensures ∙ ap held c.plus.ensures))
    (c.put_after-5.ensures ∙ ap (set r3 (a + 4)) c.hold-4.ensures)
    c.put_after-6.ensures
    c.put_after-7.ensures
    c.put_after-8.ensures)
    (c.plus-2.ensures ∙ short (goal.at.returns c).Start h)
