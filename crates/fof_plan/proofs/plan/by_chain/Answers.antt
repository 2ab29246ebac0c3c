-- `by_chain` of src/plan.rt meets its contract. Assumes nothing.
use mathlib.Core.Path.{refl}
use Rattle.fof_plan.proofs.PlanLaws.{chain-as, chain-lone, chain-out}
use Rattle.fof_plan.proofs.plan.by_chain.Goals as goal

pub returns-in-Lone : goal.returns-in-Lone
returns-in-Lone c = λ code. let a = c.args in chain-lone a.c.number code a.sort c.in-Lone.is c.leading.ensures

pub returns-in-Goal : goal.returns-in-Goal
returns-in-Goal c = λ code. chain-as c.args.c.number code c.in-Goal.is c.in-Conj.is (c.linked.ensures code)

pub returns-in-Clause : goal.returns-in-Clause
returns-in-Clause c = λ code. chain-as c.args.c.number code c.in-Clause.is c.in-Conj.is (c.linked-in-Clause.ensures code)

pub returns-in-Head : goal.returns-in-Head
returns-in-Head c = λ code. chain-out c.args.c.number code c.in-Head.is c.in-Conj.is c.refused.ensures (λ _ _. refl)

pub returns-in-Goal-sort : goal.returns-in-Goal-sort
returns-in-Goal-sort c = λ code. chain-as c.args.c.number code c.in-Goal-sort.is c.in-Disj.is (c.linked-in-Goal-sort.ensures code)

pub returns-in-Clause-sort : goal.returns-in-Clause-sort
returns-in-Clause-sort c = λ code. chain-out c.args.c.number code c.in-Clause-sort.is c.in-Disj.is c.refused-in-Clause-sort.ensures (λ _ _. refl)

pub returns-in-Head-sort : goal.returns-in-Head-sort
returns-in-Head-sort c = λ code. chain-out c.args.c.number code c.in-Head-sort.is c.in-Disj.is c.refused-in-Head-sort.ensures (λ _ _. refl)

pub returns-in-Goal-sort-2 : goal.returns-in-Goal-sort-2
returns-in-Goal-sort-2 c = λ code. chain-as c.args.c.number code c.in-Goal-sort-2.is c.in-Implied.is (c.implied.ensures code c.args.c.number)

pub returns-in-Clause-sort-2 : goal.returns-in-Clause-sort-2
returns-in-Clause-sort-2 c = λ code. chain-as c.args.c.number code c.in-Clause-sort-2.is c.in-Implied.is (c.implied-in-Clause-sort-2.ensures code c.args.c.number)

pub returns-in-Head-sort-2 : goal.returns-in-Head-sort-2
returns-in-Head-sort-2 c = λ code. chain-out c.args.c.number code c.in-Head-sort-2.is c.in-Implied.is c.refused-in-Head-sort-2.ensures (λ _ _. refl)
