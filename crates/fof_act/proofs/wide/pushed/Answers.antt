-- `pushed` of src/wide.rt meets its contract. Assumes nothing.
use Rattle.fof_act.proofs.ActLaws.{push-four}
use Rattle.fof_act.proofs.wide.pushed.Goals as goal

pub returns : goal.returns
returns c = push-four c.args.p c.push-top.ensures c.push-top-2.ensures c.push-top-3.ensures c.push.ensures
