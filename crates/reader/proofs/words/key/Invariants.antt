use lib.ListN.{drop}
use mathlib.Core.Path.{◌≡◌}
use Prim.Native.Nat.{◌<◌}
use Rattle.reader.specs.Key.{key_from, key_of}
use Rattle.reader.proofs.KeyLaws.{top}
use Rattle.reader.proofs.words.key.Given as goal

abbrev pub invariant-loop-b : goal.invariant-loop-b
invariant-loop-b l = record { small : l.k < top l.b-index; key : key_from l.k (drop l.b-index l.w) ≡ key_of l.w }
