-- `step` of src/wide.rt meets its contract. Assumes nothing.
use Rattle.fof_act.proofs.RunLaws.{steps}
use Rattle.fof_act.proofs.wide.step.Goals as goal

pub returns : goal.returns
returns c = steps c.saturating_sub-top.ensures c.entry-d.ensures c.sign_ahead-a.ensures c.plan_for-p.ensures c.act.ensures
