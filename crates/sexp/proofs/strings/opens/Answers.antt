-- `opens` meets its contract.
use Prim.Native.Nat.{ℕ}
use mathlib.Core.Path.{ap}
use lib.Dec.{eqb}
use Rattle.sexp.proofs.strings.opens.Goals as goal

pub returns : goal.returns
returns c = ap (λ (x : ℕ). eqb x 40) c.byte.ensures
