-- `term` of src/plan.rt meets its contract. Assumes nothing.
use mathlib.Core.Path.{ap}
use Rattle.fof_pass.specs.declared.ahead.Sign.TheVariants as S
use Rattle.fof_pass.specs.Codes.{code_is}
use Rattle.fof_pass.proofs.CodeLaws.{code-only}
use Rattle.fof_plan.proofs.PlanLaws.{term-variable, term-function, term-out}
use Rattle.fof_plan.proofs.plan.term.Goals as goal

pub returns-in-Upper : goal.returns-in-Upper
returns-in-Upper c = let a = c.args in term-variable (code_is a.sign) (ap code_is c.in-Upper.is) c.writing.ensures

pub returns-in-Lower : goal.returns-in-Lower
returns-in-Lower c = let a = c.args in term-function (code_is a.sign) (ap code_is c.in-Lower.is) c.leading.ensures

pub returns-in_default : goal.returns-in_default
returns-in_default c = let a = c.args in term-out (code_is a.sign) (λ e. c.in_default.not-Upper (code-only a.sign S.Upper e)) (λ e. c.in_default.not-Lower (code-only a.sign S.Lower e)) c.refused.ensures
