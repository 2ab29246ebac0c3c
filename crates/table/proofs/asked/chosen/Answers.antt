-- `chosen` of src/asked.rt meets its contract. Assumes nothing.
use borrow.Author.Tests.{not-false}
use mathlib.Core.Path.{sym, ◌∙◌}
use native.Mathlib.Omega.{arith}
use borrow.Author.Rules.{rules}
use Rattle.table.proofs.asked.chosen.Goals as goal

pub returns : goal.returns
returns c = (c.is_this.ensures (not-false _ c.if-not-is_this.false-raw), sym c.word_after.ensures ∙ c.if-word_after-height.false, omega (arith, c.word_after-k.ensures, c.if-k-eq0.false))
