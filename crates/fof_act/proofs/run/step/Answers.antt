-- `step` of src/run.rt meets its contract. Assumes nothing.
use mathlib.Core.Path.{◌∙◌}
use Rattle.fof_act.proofs.RunLaws.{steps}
use Rattle.fof_act.proofs.run.step.Goals as goal

pub returns : goal.returns
returns c = steps c.saturating_sub-top.ensures (c.due_of-d.ensures ∙ c.entry-held.ensures) c.sign_ahead-a.ensures c.plan_for-p.ensures c.act.ensures
