use Prim.Native.Nat.{◌+◌, ◌-◌, ◌*◌, ◌≤◌}
use lib.ListN.{length}
use Rattle.sexp.specs.Sexp.{Sexps, nestings, StandsAll}
use Rattle.reader.specs.Bars.{Tableds, bars_in}
use Rattle.reader.proofs.BarsLaws.{Going}
use Rattle.reader.proofs.bars.+bars.Given as goal

abbrev pub decreases-bars_at : goal.decreases-bars_at
decreases-bars_at l = 2 * l.nest

abbrev pub decreases-bars_in : goal.decreases-bars_in
decreases-bars_in l = 2 * l.nest + 1

abbrev pub invariant-bars_in-loop-i : goal.invariant-bars_in-loop-i
invariant-bars_in-loop-i l = (xs : Sexps) → Tableds xs → StandsAll l.s l.at xs → nestings xs ≤ l.nest → Going l.s l.nest l.holds l.n (bars_in l.holds l.n l.at xs) l.i

abbrev pub decreases-bars_in-loop-i : goal.decreases-bars_in-loop-i
decreases-bars_in-loop-i l = length l.s - l.i
