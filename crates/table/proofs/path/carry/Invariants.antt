use Prim.Native.Nat.{ℕ, ◌-◌, ◌≤◌}
use mathlib.Core.Path.{subst}
use Rattle.table.specs.Slots.{Carried}
use Rattle.table.proofs.PathLaws.{carried_none, carried-next}
use native.Mathlib.Omega.{arith}
use borrow.Author.Rules.{rules}
use Rattle.table.proofs.path.carry.Given as goal

abbrev pub invariant-loop-k : goal.invariant-loop-k
invariant-loop-k l = Carried l.initial.room l.room l.from l.k l.to
