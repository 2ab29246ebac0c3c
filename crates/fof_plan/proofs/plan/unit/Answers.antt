-- `unit` of src/plan.rt meets its contract. Assumes nothing.
use mathlib.Core.Path.{ap}
use Rattle.fof_pass.specs.declared.ahead.Sign.TheVariants as S
use Rattle.fof_pass.specs.Codes.{code_is}
use Rattle.fof_pass.proofs.CodeLaws.{code-only}
use Rattle.fof_pass.specs.Dues.{sort_is}
use Rattle.fof_plan.proofs.PlanLaws.{unit-atom, unit-every, unit-exist, unit-opens, unit-out, unit-truth}
use native.Mathlib.Omega.{arith}
use Rattle.fof_plan.proofs.plan.unit.Goals as goal

pub returns-in-Lower : goal.returns-in-Lower
returns-in-Lower c = let a = c.args in unit-atom (code_is a.sign) (sort_is a.sort) (ap code_is c.in-Lower.is) c.leading.ensures

pub returns-in-Truth : goal.returns-in-Truth
returns-in-Truth c = let a = c.args in let k = (ap code_is c.in-Truth.is) in unit-truth (code_is a.sign) (sort_is a.sort) k (c.topped.ensures (code_is a.sign) 0 (omega (arith, k)))

pub returns-in-Opens : goal.returns-in-Opens
returns-in-Opens c = let a = c.args in unit-opens (code_is a.sign) a.sort (ap code_is c.in-Opens.is) c.leading-in-Opens.ensures

pub returns-in-Every : goal.returns-in-Every
returns-in-Every c = let a = c.args in let k = (ap code_is c.in-Every.is) in unit-every (code_is a.sign) (sort_is a.sort) k (c.quantified.ensures (code_is a.sign) 0 (omega (arith, k)))

pub returns-in-Exist : goal.returns-in-Exist
returns-in-Exist c = let a = c.args in let k = (ap code_is c.in-Exist.is) in unit-exist (code_is a.sign) (sort_is a.sort) k (c.quantified-in-Exist.ensures (code_is a.sign) 0 (omega (arith, k)))

pub returns-in_default : goal.returns-in_default
returns-in_default c = let a = c.args in unit-out (sort_is a.sort) (code_is a.sign) (λ e. c.in_default.not-Lower (code-only a.sign S.Lower e)) (λ e. c.in_default.not-Truth (code-only a.sign S.Truth e)) (λ e. c.in_default.not-Opens (code-only a.sign S.Opens e)) (λ e. c.in_default.not-Every (code-only a.sign S.Every e)) (λ e. c.in_default.not-Exist (code-only a.sign S.Exist e)) c.refused.ensures
