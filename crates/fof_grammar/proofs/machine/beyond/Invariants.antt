use Prim.Native.Nat.{◌-◌}
use mathlib.Core.Path.{◌≡◌}
use mathlib.Core.Bool.{true}
use mathlib.Core.List.{List, map}
use lib.ListN.{length, drop}
use Rattle.grammar.specs.Machine.{ahead}
use Rattle.fof_productions.specs.Terminal.{Terminal, code}
use Rattle.fof_productions.specs.Decided.{decided}
use Rattle.fof_grammar.proofs.machine.beyond.Given as goal

abbrev pub invariant-loop-i : goal.invariant-loop-i
invariant-loop-i l = (w : List Terminal) → l.codes ≡ map code w → ahead decided true (drop l.at w) ≡ ahead decided true (drop l.i w)

abbrev pub decreases-loop-i : goal.decreases-loop-i
decreases-loop-i l = length l.codes - l.i
