-- `meaning` of src/equal.rt meets its contract. Assumes nothing.
use Rattle.equal.specs.Term.{binding_seen}
use mathlib.Core.Path.{sym, ap, ◌∙◌}
use Rattle.equal.proofs.equal.meaning.Goals as goal

pub returns-in-Candidate : goal.returns-in-Candidate
unfolding binding_seen
returns-in-Candidate c = c.candidate.ensures ∙ ap (binding_seen c.args.room.now) (sym c.in-Candidate.is)

pub returns-in-Parameter : goal.returns-in-Parameter
unfolding binding_seen
returns-in-Parameter c = ap (binding_seen c.args.room.now) (sym c.in-Parameter.is)
