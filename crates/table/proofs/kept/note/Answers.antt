-- `note` of src/kept.rt meets its contract. Assumes nothing.
use lib.ListN.{set}
use Prim.Native.Nat.{◌+◌}
use mathlib.Core.Path.{ap, ◌∙◌}
use Rattle.table.specs.Slots.{Notes}
use Rattle.table.proofs.EntryLaws.{proved-is}
use native.Mathlib.Omega.{arith}
use borrow.Author.Rules.{rules}
use Rattle.table.proofs.kept.note.Goals as goal

pub returns-then-found : goal.returns-then-found
returns-then-found c = let x = c.args in let room = x.room.now in let r1 = c.put_after.new.room in let r2 = c.put_after-then-found.new.room in
    λ h. Notes.proved c.if-found.true
    (proved-is room r1 r2 x.at x.height x.choice x.top c.numbers-n.result c.numbers_word-to.result h (c.put_after.ensures ∙ ap (set room (x.at + 6)) c.hold.ensures) (c.put_after-then-found.ensures ∙ ap (set r1 (x.at + 7)) c.hold-then-found.ensures) c.numbers-n.ensures c.numbers_word-to.ensures c.carry.ensures)

pub returns : goal.returns
returns c = let x = c.args in
    λ h. Notes.failed c.if-found.false (c.put_after-2.ensures ∙ ap (set x.room.now (x.at + 5)) c.hold-2.ensures)
