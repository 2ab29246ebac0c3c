-- `links` of src/act.rt meets its contract. Assumes nothing.
use mathlib.Core.Bool.{true, false}
use Rattle.fof_act.proofs.ActLaws.{links-by}
use Rattle.fof_act.proofs.act.links.Goals as goal

pub returns-then-conj : goal.returns-then-conj
returns-then-conj c = links-by true c.args.number c.if-conj.true c.heads.ensures

pub returns : goal.returns
returns c = links-by false c.args.number c.if-conj.false c.heads-2.ensures
