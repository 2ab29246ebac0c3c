-- `place_of` of src/table.rt meets its contract. Assumes nothing.
use mathlib.Core.Path.{sym, ◌∙◌, ap}
use Rattle.narrow.specs.Heads.{place_of}
use Rattle.narrow.proofs.table.place_of.Goals as goal

pub returns-in-None : goal.returns-in-None
unfolding place_of
returns-in-None c = sym (ap place_of c.in-None.is)

pub returns-in-Some : goal.returns-in-Some
unfolding place_of
returns-in-Some c = c.hold.ensures ∙ sym (ap place_of c.in-Some.is)
