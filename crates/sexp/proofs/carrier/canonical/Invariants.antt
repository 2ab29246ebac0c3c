use mathlib.Core.Path.{◌≡◌}
use Prim.Native.Nat.{◌-◌, ◌≤◌}
use lib.ListN.{length, drop}
use Rattle.sexp.specs.Scan.{hints_read, scan, carrier_of}
use Rattle.sexp.proofs.CarrierLaws.{item}
use Rattle.sexp.proofs.carrier.canonical.Given as goal

abbrev pub invariant-loop-at : goal.invariant-loop-at
invariant-loop-at l = (l.at ≤ length l.s) × ((l.lists ≤ l.at) × (carrier_of l.limit l.s ≡ scan hints_read l.limit (item l.lists) l.at l.v (drop l.at l.s)))

abbrev pub decreases-loop-at : goal.decreases-loop-at
decreases-loop-at l = length l.s - l.at
