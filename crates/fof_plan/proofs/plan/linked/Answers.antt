-- `linked` of src/plan.rt meets its contract. Assumes nothing.
use Rattle.fof_plan.proofs.PlanLaws.{linked-is}
use Rattle.fof_plan.proofs.plan.linked.Goals as goal

pub returns : goal.returns
returns c = let a = c.args in λ code. linked-is code a.number a.conj a.sort c.leading.ensures
