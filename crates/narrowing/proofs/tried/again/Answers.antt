-- `again` of src/tried.rt meets its contract. Assumes nothing.
use mathlib.Core.Path.{sym, ◌∙◌}
use mathlib.Core.Bool.{false≢true}
use Rattle.narrowing.proofs.tried.again.Goals as goal

pub returns : goal.returns
returns c = λ e. absurd (false≢true (sym c.if-inner.false ∙ e))
