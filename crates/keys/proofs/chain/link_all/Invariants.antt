use Prim.Native.Nat.{◌≤◌, min}
use Rattle.keys.specs.Chains.{LinkedFrom}
use Rattle.keys.proofs.chain.link_all.Given as goal

abbrev pub invariant-loop-k : goal.invariant-loop-k
invariant-loop-k l = (l.k ≤ min l.n 256) × LinkedFrom l.numbers l.links (min l.n 256) l.initial.room l.room l.k
