-- `is_plain` of src/plain.rt meets its contract. Assumes nothing.
use mathlib.Core.Path.{sym, subst}
use Rattle.proving.specs.Parts.{PlainAt}
use Rattle.proving.proofs.PartsLaws.{plain-told}
use Rattle.proving.proofs.plain.is_plain.Goals as goal

pub returns : goal.returns
returns c = subst (PlainAt c.args.files.now c.args.x) (sym c.is_some.ensures) (plain-told c.parts_from.ensures)
