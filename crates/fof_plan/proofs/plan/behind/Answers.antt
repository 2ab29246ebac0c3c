-- `behind` of src/plan.rt meets its contract. Assumes nothing.
use mathlib.Core.Path.{ap}
use Rattle.fof_pass.specs.declared.ahead.Sign.TheVariants as S
use Rattle.fof_pass.specs.Codes.{code_is}
use Rattle.fof_pass.proofs.CodeLaws.{code-only}
use Rattle.fof_plan.proofs.PlanLaws.{behind-comma, behind-end}
use native.Mathlib.Omega.{arith}
use Rattle.fof_plan.proofs.plan.behind.Goals as goal

pub returns-in-Comma : goal.returns-in-Comma
returns-in-Comma c = let a = c.args in behind-comma a.every a.sort (code_is a.sign) (ap code_is c.in-Comma.is) c.leading.ensures

pub returns-in_default : goal.returns-in_default
returns-in_default c = let a = c.args in behind-end a.every a.sort (code_is a.sign) (λ e. c.in_default.not-Comma (code-only a.sign S.Comma e)) (c.taken.ensures 0 (omega arith) (λ _. (tt, tt, tt)))
