use Rattle.start.proofs.TableLaws.{high-none, high-more}
use Rattle.start.specs.Head.{HighestIn}
use mathlib.Core.Path.{◌≡◌, subst}
use Prim.Native.Nat.{◌-◌, ◌≤◌}
use native.Mathlib.Omega.{arith}
use borrow.Author.Rules.{rules}
use Rattle.start.proofs.table.highests.Given as goal

abbrev pub invariant-loop-i : goal.invariant-loop-i
invariant-loop-i l = HighestIn l.initial.room l.room l.terms l.i
