use Prim.Native.Nat.{◌-◌}
use lib.ListN.{length}
use borrow.Author.Tests.{not-true, not-false}
use Rattle.equal.proofs.RestLaws.{past-on}
use Rattle.heads.proofs.PredicateLaws.{LeftAt, left-start, left-short, left-lost, left-lost-too, left-next, left_end}
use native.Mathlib.Omega.{arith}
use borrow.Author.Rules.{rules}
use Rattle.heads.proofs.predicate.same_number.Given as goal

abbrev pub invariant-loop-i : goal.invariant-loop-i
invariant-loop-i l = LeftAt l.s l.t l.i l.j l.p l.q

abbrev pub decreases-loop-i : goal.decreases-loop-i
decreases-loop-i l = length l.s - l.p
