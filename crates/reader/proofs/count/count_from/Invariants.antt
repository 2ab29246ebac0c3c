use Prim.Native.Nat.{◌≤◌, ◌-◌}
use lib.ListN.{length}
use Rattle.sexp.specs.Sexp.{Sexps, nestings, StandsAll}
use Rattle.reader.specs.Judged.{count_in}
use Rattle.reader.proofs.CountLaws.{Counting}
use Rattle.reader.proofs.count.count_from.Given as goal

abbrev pub invariant-loop-at : goal.invariant-loop-at
invariant-loop-at l = (l.n ≤ 257) × ((xs : Sexps) → StandsAll l.s l.at xs → nestings xs ≤ 64 → Counting l.s (count_in l.at xs) l.i l.n)

abbrev pub decreases-loop-at : goal.decreases-loop-at
decreases-loop-at l = length l.s - l.i
