-- `beside` of src/put.rt meets its contract. Assumes nothing.
use mathlib.Core.Path.{ap₂}
use Prim.Native.Nat.{ℕ}
use borrow.Author.Rules.{rules}
use Rattle.drawing.proofs.put.beside.Goals as goal

pub returns : goal.returns
returns c = ap₂ (λ (h n : ℕ). record { height = h; nodes = n; at = c.args.b.at }) c.max.ensures c.plus.ensures
