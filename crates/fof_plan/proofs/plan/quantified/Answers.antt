-- `quantified` of src/plan.rt meets its contract. Assumes nothing.
use mathlib.Core.Path.{refl}
use Rattle.fof_plan.proofs.PlanLaws.{quantified-in, quantified-out}
use Rattle.fof_plan.proofs.plan.quantified.Goals as goal

pub returns-then-every : goal.returns-then-every
returns-then-every c = λ code n l. quantified-in code n l c.if-every.true c.in-Clause.is c.leading-then-every.ensures (λ _ _. refl)

pub returns-in-Goal : goal.returns-in-Goal
returns-in-Goal c = λ code n l. quantified-in code n l refl c.in-Goal.is c.leading.ensures (λ _ _. refl)

pub returns-else-every : goal.returns-else-every
returns-else-every c = λ code n l. quantified-out code n l c.if-every.false c.in-Clause.is c.refused.ensures (λ _ _. refl)

pub returns-in-Head : goal.returns-in-Head
returns-in-Head c = λ code n l. quantified-out code n l {b = c.args.every} refl c.in-Head.is c.refused-in-Head.ensures (λ _ _. refl)
