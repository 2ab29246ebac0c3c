-- `ended` of src/variables.rt meets its contract. Assumes nothing.
use mathlib.Core.Path.{sym, ap}
use Rattle.std.specs.Prelude.{Option}
use Prim.Native.Nat.{ℕ}
use Rattle.held.specs.Held.{met_by}
use Rattle.held.proofs.variables.ended.Goals as goal

pub returns-in-Some : goal.returns-in-Some
returns-in-Some c = ap (λ (a : Option ℕ). met_by a c.args.with) (sym c.in-Some.is)

pub returns-in-None : goal.returns-in-None
returns-in-None c = ap (λ (a : Option ℕ). met_by a c.args.with) (sym c.in-None.is)
