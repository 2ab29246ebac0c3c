use lib.ListN.{length}
use Rattle.keys.proofs.WalkLaws.{KeysLeft}
use Prim.Native.Nat.{◌+◌, ◌-◌, ◌*◌}
use Rattle.keys.proofs.term.+key.Given as goal

abbrev pub decreases-key_at : goal.decreases-key_at
decreases-key_at l = 2 * l.nest

abbrev pub decreases-keys_at : goal.decreases-keys_at
decreases-keys_at l = 2 * l.nest + 1

abbrev pub invariant-keys_at-loop-x : goal.invariant-keys_at-loop-x
invariant-keys_at-loop-x l = KeysLeft l.s l.at l.room l.x l.h l.nest l.p l.k

abbrev pub decreases-keys_at-loop-x : goal.decreases-keys_at-loop-x
decreases-keys_at-loop-x l = length l.s - l.p
