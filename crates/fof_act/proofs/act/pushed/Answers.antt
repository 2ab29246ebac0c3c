-- `pushed` of src/act.rt meets its contract. Assumes nothing.
use Rattle.fof_act.proofs.ActLaws.{push-four}
use Rattle.fof_act.proofs.act.pushed.Goals as goal

pub returns : goal.returns
returns c = push-four c.args.p c.push_short-top.ensures c.push_short-top-2.ensures c.push_short-top-3.ensures c.push_short.ensures
