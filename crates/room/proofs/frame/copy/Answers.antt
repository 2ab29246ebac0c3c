-- `copy` of src/frame.rt meets its contract. Assumes nothing.
use Rattle.room.proofs.FrameLaws.{not-copied, fit-bounds, copied_is}
use mathlib.Core.Path.{◌≡◌, sym, ap, ◌∙◌}
use Prim.Native.Nat.{◌+◌, ◌-◌}
use lib.Seq.{paste}
use lib.ListN.{length, drop}
use native.Mathlib.Omega.{arith}
use Rattle.room.proofs.frame.copy.Goals as goal

pub returns-then-copies : goal.returns-then-copies
returns-then-copies c = let x = c.args in
    let h = fit-bounds c.copies.result x.base x.count x.top (length x.room.now) c.copies.ensures c.if-copies.true in
    let n : x.base + x.count - x.base ≡ x.count = omega arith in
    c.copy_within.ensures.after ∙ ap (paste x.room.now x.top (drop x.base x.room.now)) n ∙ sym (copied_is x.room.now x.base x.count x.top h.0 h.1)

pub returns-else-copies : goal.returns-else-copies
returns-else-copies c = let x = c.args in sym (not-copied x.room.now x.base x.count x.top (sym c.copies.ensures ∙ c.if-copies.false))
