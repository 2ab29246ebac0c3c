-- `spot` of src/slot.rt meets its contract. Assumes nothing.
use Rattle.room.specs.Spot.{source_of}
use Rattle.room.proofs.FileLaws.{spot-alike}
use mathlib.Core.Path.{◌≡◌, sym, ap, ◌∙◌, subst}
use native.Mathlib.Omega.{arith}
use borrow.Author.Rules.{rules}
use Rattle.table.proofs.slot.spot.Goals as goal

pub returns : goal.returns
returns c = λ h. spot-alike (c.from.ensures ∙ ap source_of c.word_after.ensures) c.word_after-2.ensures (c.plus.ensures ∙ omega arith) c.word_after-3.ensures
