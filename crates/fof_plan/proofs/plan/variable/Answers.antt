-- `variable` of src/plan.rt meets its contract. Assumes nothing.
use mathlib.Core.Path.{ap}
use Rattle.fof_pass.specs.declared.ahead.Sign.TheVariants as S
use Rattle.fof_pass.specs.Codes.{code_is}
use Rattle.fof_pass.proofs.CodeLaws.{code-only}
use Rattle.fof_plan.proofs.PlanLaws.{variable-in, variable-out}
use Rattle.fof_plan.proofs.plan.variable.Goals as goal

pub returns-in-Upper : goal.returns-in-Upper
returns-in-Upper c = let a = c.args in variable-in a.every a.sort (code_is a.sign) (ap code_is c.in-Upper.is) c.leading.ensures

pub returns-in_default : goal.returns-in_default
returns-in_default c = let a = c.args in variable-out a.every a.sort (code_is a.sign) (λ e. c.in_default.not-Upper (code-only a.sign S.Upper e)) c.refused.ensures
