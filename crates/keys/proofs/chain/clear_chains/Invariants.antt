use Prim.Native.Nat.{◌-◌, ◌≤◌}
use Rattle.keys.specs.Chains.{ClearedTo}
use Rattle.keys.proofs.chain.clear_chains.Given as goal

abbrev pub invariant-loop-b : goal.invariant-loop-b
invariant-loop-b l = ClearedTo l.links l.initial.room l.room l.b
