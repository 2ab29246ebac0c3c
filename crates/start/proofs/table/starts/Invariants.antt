use Rattle.start.proofs.TableLaws.{Filling, filling-start, filling-end, filling-next, filling-full}
use Prim.Native.Nat.{◌-◌}
use native.Mathlib.Omega.{arith}
use borrow.Author.Rules.{rules}
use Rattle.start.proofs.table.starts.Given as goal

abbrev pub invariant-loop-k : goal.invariant-loop-k
invariant-loop-k l = Filling l.initial.room l.room l.s l.at l.base l.k l.p
