-- `push` of src/frame.rt meets its contract. Assumes nothing.
use lib.ListN.{set}
use Prim.Native.Nat.{ℕ}
use mathlib.Core.Path.{ap, ◌∙◌}
use Rattle.room.proofs.frame.push.Goals as goal

pub returns : goal.returns
returns c = let x = c.args in
    c.put.ensures ∙ ap (λ (w : ℕ). set x.room.now x.top w) c.word_of.ensures
