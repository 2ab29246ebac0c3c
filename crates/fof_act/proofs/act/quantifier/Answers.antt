-- `quantifier` of src/act.rt meets its contract. Assumes nothing.
use mathlib.Core.Bool.{true, false}
use Rattle.fof_act.proofs.ActLaws.{quantifier-by}
use Rattle.fof_act.proofs.act.quantifier.Goals as goal

pub returns-then-every : goal.returns-then-every
returns-then-every c = quantifier-by true c.if-every.true c.head.ensures

pub returns : goal.returns
returns c = quantifier-by false c.if-every.false c.head-2.ensures
