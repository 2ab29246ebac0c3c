-- `pass` of src/lines.rt meets its contract. Assumes nothing.
use Rattle.fof_lines.proofs.LinesLaws.{room_for}
use lib.ListN.{length-replicate}
use Prim.Native.Nat.{ℕ}
use Rattle.fof_lines.proofs.lines.pass.Goals as goal

pub shape_of-rules : goal.shape_of-rules
shape_of-rules c = c.lines.ensures.kept.rules

pub shape_of-goal : goal.shape_of-goal
shape_of-goal c = c.lines.ensures.kept.goal

pub returns : goal.returns
returns c = let e = c.lines.ensures in record { rules = e.kept.rules; goal = e.kept.goal; does = λ l ss s. e.does l (room_for 98400 16385 _ _ c.filled-stack.ensures (length-replicate {A = ℕ} 16385 0)) ss s }
