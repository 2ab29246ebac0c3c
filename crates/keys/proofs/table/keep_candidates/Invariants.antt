use Prim.Native.Nat.{◌-◌, ◌≤◌}
use Rattle.keys.specs.Keys.{CandidatesDone}
use Rattle.keys.proofs.table.keep_candidates.Given as goal

abbrev pub invariant-loop-i : goal.invariant-loop-i
invariant-loop-i l = CandidatesDone l.initial.room l.room l.terms l.i
