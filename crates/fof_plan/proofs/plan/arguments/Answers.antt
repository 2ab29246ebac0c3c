-- `arguments` of src/plan.rt meets its contract. Assumes nothing.
use mathlib.Core.Path.{ap}
use Rattle.fof_pass.specs.declared.ahead.Sign.TheVariants as S
use Rattle.fof_pass.specs.Codes.{code_is}
use Rattle.fof_pass.proofs.CodeLaws.{code-only}
use Rattle.fof_plan.proofs.PlanLaws.{arguments-in, arguments-none}
use Rattle.fof_plan.proofs.plan.arguments.Goals as goal

pub returns-in-Opens : goal.returns-in-Opens
returns-in-Opens c = let a = c.args in arguments-in (code_is a.sign) (ap code_is c.in-Opens.is) c.leading.ensures

pub returns-in_default : goal.returns-in_default
returns-in_default c = let a = c.args in arguments-none (code_is a.sign) (λ e. c.in_default.not-Opens (code-only a.sign S.Opens e)) c.writing.ensures
