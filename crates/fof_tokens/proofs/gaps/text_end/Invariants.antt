use Prim.Native.Nat.{◌-◌}
use mathlib.Core.Path.{◌≡◌}
use lib.ListN.{length, drop}
use Rattle.fof_tokens.specs.Machine.{soonest}
use Rattle.fof_tokens.specs.Begins.{comment_text}
use Rattle.fof_tokens.proofs.gaps.text_end.Given as goal

abbrev pub invariant-loop-i : goal.invariant-loop-i
invariant-loop-i l = soonest comment_text l.at (drop l.at l.text) ≡ soonest comment_text l.i (drop l.i l.text)

abbrev pub decreases-loop-i : goal.decreases-loop-i
decreases-loop-i l = length l.text - l.i
