use Prim.Native.Nat.{ℕ, ◌-◌}
use mathlib.Core.Path.{◌≡◌}
use mathlib.Core.Option.{Option}
use lib.ListN.{length, drop}
use Rattle.fof_tokens.specs.Machine.{Sort, scan}
use Rattle.fof_tokens.specs.Begins.{in_quotes}
use Rattle.fof_tokens.proofs.words.quoted_end.Given as goal

abbrev pub invariant-loop-i : goal.invariant-loop-i
invariant-loop-i l = (s : Sort) (last : Option (Sort × ℕ)) → scan (in_quotes l.quote s) l.at last (drop l.at l.text) ≡ scan (in_quotes l.quote s) l.i last (drop l.i l.text)

abbrev pub decreases-loop-i : goal.decreases-loop-i
decreases-loop-i l = length l.text - l.i
