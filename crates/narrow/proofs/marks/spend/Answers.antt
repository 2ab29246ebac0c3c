-- `spend` of src/marks.rt meets its contract. Assumes nothing.
use native.Mathlib.Omega.{arith}
use Prim.Native.Nat.{◌+◌}
use lib.ListN.{get_or}
use Rattle.narrow.proofs.MarkLaws.{more-set}
use Rattle.narrow.proofs.marks.spend.Goals as goal

pub returns : goal.returns
returns c = let x = c.args in
    more-set x.marks.now 256 (get_or x.marks.now 256 0 + 1) (λ e. omega arith)
