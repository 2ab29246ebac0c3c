use Rattle.fof_lines.proofs.LinesLaws.{Sofar}
use Rattle.fof_lines.specs.Lined.{KeptBoth}
use Rattle.fof_act.specs.Holding.{Roomy}
use Rattle.fof_pass.specs.Ahead.{signs_at}
use Rattle.fof_part.specs.Sign.{Sign}
use lib.ListN.{length}
use mathlib.Core.Option.{some}
use mathlib.Core.List.{List}
use mathlib.Core.Path.{◌≡◌}
use Prim.Native.Nat.{◌≤◌}
use Rattle.fof_lines.proofs.lines.lines.Given as goal

abbrev pub invariant-loop-rules : goal.invariant-loop-rules
invariant-loop-rules l = KeptBoth l.initial.stack l.stack l.initial.names l.names l.initial.rules l.rules l.initial.goal l.goal × (length l.text ≤ 16384 → Roomy l.initial.stack l.initial.names → (ss : List Sign) → signs_at l.text 0 ≡ some ss → Sofar l.text ss l.initial.p l.initial.rules l.rules l.initial.goal l.goal l.p l.left)

abbrev pub decreases-loop-rules : goal.decreases-loop-rules
decreases-loop-rules l = l.left
