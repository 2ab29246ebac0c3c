-- `begin` of src/next.rt meets its contract. Assumes nothing.
use Prim.Native.Nat.{◌-◌}
use mathlib.Core.Path.{refl}
use Rattle.keys.proofs.NextLaws.{begin-first, begin-after}
use Rattle.keys.proofs.next.begin.Goals as goal

pub returns-then-from-eq0 : goal.returns-then-from-eq0
returns-then-from-eq0 c = let x = c.args in begin-first x.numbers x.links x.room.now x.x x.from c.chain_of-b.ensures.0 c.word.ensures

pub returns-then-chain_of-b : goal.returns-then-chain_of-b
returns-then-chain_of-b c = let x = c.args in begin-after x.numbers x.links x.room.now x.x x.from (x.from - 1) c.chain_of-b.ensures.0 c.if-from-eq0.false refl c.word-2.ensures c.chain_of.ensures.0 c.if-chain_of-b.true c.word-then-chain_of-b.ensures

pub returns : goal.returns
returns c = let x = c.args in begin-first x.numbers x.links x.room.now x.x x.from c.chain_of-b.ensures.0 c.word-3.ensures
