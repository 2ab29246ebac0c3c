-- `suppose` of src/file.rt meets its contract. Assumes nothing.
use Rattle.room.proofs.FileLaws.{four-stored, supposing-some, supposing-none}
use lib.ListN.{set}
use Prim.Native.Nat.{◌+◌, ◌*◌}
use mathlib.Core.Path.{sym, ap, ◌∙◌}
use Rattle.room.proofs.file.suppose.Goals as goal

pub returns-then-m-lt63 : goal.returns-then-m-lt63
returns-then-m-lt63 c = let x = c.args in
    let i = 770 + 5 * x.m in
    let r₁ = c.put.new.room in
    let r₂ = c.put-then-m-lt63.new.room in
    let r₃ = c.put-then-m-lt63-2.new.room in
    four-stored x.room.now r₁ r₂ r₃ c.put-then-m-lt63-3.new.room i _ _ _ _
    (c.put.ensures ∙ ap (set x.room.now i) c.from.ensures)
    (c.put-then-m-lt63.ensures ∙ ap (set r₁ (i + 1)) c.hold.ensures)
    (c.put-then-m-lt63-2.ensures ∙ ap (set r₂ (i + 2)) c.hold-then-m-lt63.ensures)
    (c.put-then-m-lt63-3.ensures ∙ ap (set r₃ (i + 3)) c.hold-then-m-lt63-2.ensures)
    ∙ sym (supposing-some x.room.now x.m x.x c.if-m-lt63.true)

pub returns-else-m-lt63 : goal.returns-else-m-lt63
returns-else-m-lt63 c = let x = c.args in sym (supposing-none x.room.now x.m x.x c.if-m-lt63.false)
