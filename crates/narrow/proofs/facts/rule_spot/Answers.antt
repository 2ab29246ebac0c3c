-- `rule_spot` of src/facts.rt meets its contract. Assumes nothing.
use mathlib.Core.Path.{ap}
use Rattle.narrow.specs.Heads.{in_rules}
use Rattle.narrow.proofs.facts.rule_spot.Goals as goal

pub returns : goal.returns
returns c = ap in_rules c.word-at.ensures
