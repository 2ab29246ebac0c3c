-- `open_clause` of src/opening.rt meets its contract. Assumes nothing.
use mathlib.Core.Path.{refl, sym, ◌∙◌}
use Rattle.proving.proofs.opening.open_clause.Goals as goal

pub returns : goal.returns
returns c = (c.in_ok-x.x, sym c.at_hand.ensures ∙ c.in_ok-x.was, c.copy.ensures, refl)
