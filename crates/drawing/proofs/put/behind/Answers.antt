-- `behind` of src/put.rt meets its contract. Assumes nothing.
use mathlib.Core.Path.{ap}
use Prim.Native.Nat.{ℕ}
use borrow.Author.Rules.{rules}
use Rattle.drawing.proofs.put.behind.Goals as goal

pub returns : goal.returns
returns c = ap (λ (n : ℕ). record { height = c.args.a.height; nodes = c.args.a.nodes; at = n }) c.plus.ensures
