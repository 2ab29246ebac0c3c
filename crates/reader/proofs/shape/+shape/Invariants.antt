use Prim.Native.Nat.{◌+◌, ◌-◌, ◌*◌, ◌≤◌}
use lib.ListN.{length}
use Rattle.sexp.specs.Sexp.{Sexps, nestings, StandsAll}
use Rattle.reader.specs.Shape.{shape_in}
use Rattle.reader.proofs.ShapeLaws.{Left}
use Rattle.reader.proofs.shape.+shape.Given as goal

abbrev pub decreases-shape_at : goal.decreases-shape_at
decreases-shape_at l = 2 * l.nest

abbrev pub decreases-shape_in : goal.decreases-shape_in
decreases-shape_in l = 2 * l.nest + 1

abbrev pub invariant-shape_in-loop-i : goal.invariant-shape_in-loop-i
invariant-shape_in-loop-i l = (xs : Sexps) → StandsAll l.s l.at xs → nestings xs ≤ l.nest → Left l.s l.nest (shape_in l.initial.d l.at xs) l.i l.d

abbrev pub decreases-shape_in-loop-i : goal.decreases-shape_in-loop-i
decreases-shape_in-loop-i l = length l.s - l.i
