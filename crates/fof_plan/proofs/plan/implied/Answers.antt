-- `implied` of src/plan.rt meets its contract. Assumes nothing.
use mathlib.Core.Path.{refl}
use Rattle.fof_plan.proofs.PlanLaws.{implied-is}
use Rattle.fof_plan.proofs.plan.implied.Goals as goal

pub returns : goal.returns
returns c = λ code n. implied-is code n c.args.left c.args.right refl
