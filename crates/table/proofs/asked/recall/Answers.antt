-- `recall` of src/asked.rt meets its contract. Assumes nothing.
use borrow.Author.Tests.{not-false}
use Prim.Native.Nat.{ℕ, ◌+◌, ◌*◌, ◌≤◌, ◌-◌}
use mathlib.Core.Path.{◌≡◌, sym, ap, ◌∙◌, subst}
use native.Mathlib.Omega.{arith}
use borrow.Author.Rules.{rules}
use Rattle.table.proofs.asked.recall.Goals as goal

pub returns-then-height-word_after : goal.returns-then-height-word_after
returns-then-height-word_after c = let x = c.args in
    (c.is_this.ensures (not-false _ c.if-not-is_this.false-raw), omega (arith, c.if-height-eq0.false), subst (λ (n : ℕ). x.height ≤ n) c.word_after.ensures c.if-height-word_after.true)

pub returns-then-proved-height : goal.returns-then-proved-height
returns-then-proved-height c = let x = c.args in
    (c.is_this.ensures (not-false _ c.if-not-is_this.false-raw), omega (arith, c.if-proved-eq0.false, c.word_after-proved.ensures), subst (λ (n : ℕ). n ≤ x.height) c.word_after-proved.ensures c.if-proved-height.true)
