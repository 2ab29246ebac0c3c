-- `carry` of src/path.rt meets its contract: so far as many words are copied as the loop has run. Assumes nothing.
use Prim.Native.Nat.{ℕ, ◌-◌, ◌≤◌}
use mathlib.Core.Path.{subst}
use Rattle.table.specs.Slots.{Carried}
use Rattle.table.proofs.PathLaws.{carried_none, carried-next}
use native.Mathlib.Omega.{arith}
use borrow.Author.Rules.{rules}
use Rattle.table.proofs.path.carry.Goals as goal

pub loop-k-preserved : goal.loop-k-preserved
loop-k-preserved c = let x = c.args in let l = c.loop-k in
    carried-next x.from l.k x.to l.invariant c.word_after-w.ensures c.put_after.ensures

pub returns : goal.returns
returns c = let x = c.args in let l = c.loop-k in
    subst (λ (m : ℕ). Carried x.room.now l.room x.from m x.to) {x = l.k} {y = x.n} (omega arith) l.invariant
