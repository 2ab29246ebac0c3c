-- `enter_top` meets its contract.
use Prim.Native.Nat.{ℕ}
use Rattle.std.specs.Prelude.{Some}
use mathlib.Core.Path.{sym, ap}
use Rattle.uses.specs.declared.Entered.TheVariants as E
use Rattle.uses.proofs.WalkLaws.{enter-is}
use Rattle.enter.proofs.EnterLaws.{word-other, word-same, top-other, top-same}
use Rattle.enter.proofs.enter.enter_top.Goals as goal

pub returns-then-rank : goal.returns-then-rank
returns-then-rank c = λ ss room nest ds us P o h bs g q x. top-other q x c.word_there-there.ensures (word-other c.rank.ensures c.rank-2.ensures c.if-rank.true)

pub returns : goal.returns
returns c = λ ss room nest ds us P o h bs g q x. enter-is (ap (λ (i : ℕ). Some (E.Leaf i)) (sym c.plus.ensures)) (top-same q x c.word_there-there.ensures (word-same c.rank.ensures c.rank-2.ensures c.if-rank.false))
