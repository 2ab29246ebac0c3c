use Prim.Native.Nat.{◌+◌, ◌-◌, ◌*◌, ◌≤◌}
use mathlib.Core.Path.{◌≡◌}
use lib.ListN.{length}
use Rattle.proving.proofs.AtomLaws as atoms
use Rattle.proving.proofs.PassingLaws as passing
use Rattle.narrowing.proofs.TriedLaws as tried
use Rattle.provable.proofs.provable.+proves.Given as goal

abbrev pub decreases-ask : goal.decreases-ask
decreases-ask l = 100000 * l.height + 600

abbrev pub decreases-body : goal.decreases-body
decreases-body l = 100000 * l.left + 900

abbrev pub decreases-both : goal.decreases-both
decreases-both l = 100000 * l.left + 90000

abbrev pub decreases-decide : goal.decreases-decide
decreases-decide l = 100000 * l.left + 88000

abbrev pub decreases-each : goal.decreases-each
decreases-each l = 100000 * l.left + 10000 + 4 * l.nest + 4

abbrev pub decreases-fill : goal.decreases-fill
decreases-fill l = 100000 * l.left + 1000 + 10 * l.k + 3

abbrev pub decreases-find_clause : goal.decreases-find_clause
decreases-find_clause l = 100000 * l.left + 86000

abbrev pub decreases-fork : goal.decreases-fork
decreases-fork l = 100000 * l.left + 10000 + 4 * l.nest + 5

abbrev pub decreases-look : goal.decreases-look
decreases-look l = 100000 * l.height + 800

abbrev pub decreases-look_and : goal.decreases-look_and
decreases-look_and l = 100000 * l.height + 700

abbrev pub decreases-prove_all : goal.decreases-prove_all
decreases-prove_all l = 100000 * l.left + 90000

abbrev pub decreases-prove_atom : goal.decreases-prove_atom
decreases-prove_atom l = 100000 * l.left + 90000

abbrev pub decreases-prove_goal : goal.decreases-prove_goal
decreases-prove_goal l = 100000 * l.height + 400

abbrev pub decreases-prove_or : goal.decreases-prove_or
decreases-prove_or l = 100000 * l.left + 90000

abbrev pub decreases-prove_some : goal.decreases-prove_some
decreases-prove_some l = 100000 * l.left + 90000

abbrev pub decreases-start : goal.decreases-start
decreases-start l = 100000 * l.left + 1000 + 10 * l.p.own + 5

abbrev pub decreases-through : goal.decreases-through
decreases-through l = 100000 * l.left + 10000 + 4 * l.nest + 2

abbrev pub decreases-through_with : goal.decreases-through_with
decreases-through_with l = 100000 * l.left + 10000 + 4 * l.nest + 3

abbrev pub decreases-try_all : goal.decreases-try_all
decreases-try_all l = 100000 * l.left + 1000 + 10 * l.v + 8

abbrev pub decreases-try_one : goal.decreases-try_one
decreases-try_one l = 100000 * l.left + 1000 + 10 * l.v + 6

abbrev pub decreases-under : goal.decreases-under
decreases-under l = 100000 * l.left + 90000

abbrev pub decreases-use_clause : goal.decreases-use_clause
decreases-use_clause l = 100000 * l.left + 80000

abbrev pub invariant-each-loop-i : goal.invariant-each-loop-i
invariant-each-loop-i l = (length l.room ≡ length l.initial.room) × passing.AllLeft l.files l.initial.room l.w l.x l.nest l.left l.room l.i

abbrev pub invariant-find_clause-loop-k : goal.invariant-find_clause-loop-k
invariant-find_clause-loop-k l = (l.k ≤ l.n) × ((length l.room ≡ length l.initial.room) × atoms.FindLeft l.files l.initial.room l.w l.of.predicate l.of.key l.left l.room l.k)

abbrev pub decreases-find_clause-loop-k : goal.decreases-find_clause-loop-k
decreases-find_clause-loop-k l = l.n - l.k

abbrev pub invariant-try_all-loop-i : goal.invariant-try_all-loop-i
invariant-try_all-loop-i l = (length l.room ≡ length l.initial.room) × tried.EachFrom l.files l.initial.room l.w l.p l.v l.left l.marks l.narrowed l.n l.room l.i
