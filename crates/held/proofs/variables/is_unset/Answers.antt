-- `is_unset` of src/variables.rt meets its contract. Assumes nothing.
use mathlib.Core.Path.{sym, ap}
use Rattle.mentions.specs.Open.{is_unset}
use Rattle.held.proofs.variables.is_unset.Goals as goal

pub returns-in-Candidate : goal.returns-in-Candidate
unfolding is_unset
returns-in-Candidate c = ap is_unset (sym c.in-Candidate.is)

pub returns-in-Parameter : goal.returns-in-Parameter
unfolding is_unset
returns-in-Parameter c = ap is_unset (sym c.in-Parameter.is)
