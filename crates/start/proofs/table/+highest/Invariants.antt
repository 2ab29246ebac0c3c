use Rattle.equal.proofs.RestLaws.{past-on}
use Rattle.start.proofs.HighLaws.{HighLeft, high-never, high-parameter, high-terms, high-start, high-lost, high-next, high_end}
use borrow.Author.Tests.{not-true, not-false}
use lib.ListN.{length}
use native.Mathlib.Omega.{arith}
use borrow.Author.Rules.{rules}
use Prim.Native.Nat.{ℕ, ◌<◌, ◌+◌, ◌-◌, ◌*◌}
use Rattle.start.proofs.table.+highest.Given as goal

abbrev pub decreases-highest : goal.decreases-highest
decreases-highest l = 2 * l.nest

abbrev pub decreases-highest_of : goal.decreases-highest_of
decreases-highest_of l = 2 * l.nest + 1

abbrev pub invariant-highest_of-loop-m : goal.invariant-highest_of-loop-m
invariant-highest_of-loop-m l = HighLeft l.s l.at l.nest l.p l.m

abbrev pub decreases-highest_of-loop-m : goal.decreases-highest_of-loop-m
decreases-highest_of-loop-m l = length l.s - l.p
