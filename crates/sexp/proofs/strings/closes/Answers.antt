-- `closes` meets its contract.
use Prim.Native.Nat.{ℕ}
use mathlib.Core.Path.{ap}
use lib.Dec.{eqb}
use Rattle.sexp.proofs.strings.closes.Goals as goal

pub returns : goal.returns
returns c = ap (λ (x : ℕ). eqb x 41) c.byte.ensures
