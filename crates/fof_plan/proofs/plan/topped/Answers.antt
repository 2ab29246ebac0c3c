-- `topped` of src/plan.rt meets its contract. Assumes nothing.
use mathlib.Core.Path.{refl}
use Rattle.fof_plan.proofs.PlanLaws.{topped-in, topped-out}
use Rattle.fof_plan.proofs.plan.topped.Goals as goal

pub returns-in-Goal : goal.returns-in-Goal
returns-in-Goal c = λ code n l. topped-in code n l c.in-Goal.is c.writing.ensures

pub returns-in-Clause : goal.returns-in-Clause
returns-in-Clause c = λ code n l. topped-out code n l c.in-Clause.is c.refused.ensures (λ _ _. refl)

pub returns-in-Head : goal.returns-in-Head
returns-in-Head c = λ code n l. topped-out code n l c.in-Head.is c.refused-in-Head.ensures (λ _ _. refl)
