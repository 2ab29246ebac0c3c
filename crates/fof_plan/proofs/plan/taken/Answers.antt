-- `taken` of src/plan.rt meets its contract. Assumes nothing.
use mathlib.Core.Path.{refl}
use Rattle.fof_plan.proofs.PlanLaws.{taken-hit, taken-miss}
use Rattle.fof_pass.specs.Codes.{code_is}
use Rattle.fof_pass.proofs.CodeLaws.{same-code, other-code}
use Rattle.fof_plan.proofs.plan.taken.Goals as goal

pub returns-then-eq : goal.returns-then-eq
returns-then-eq c = let a = c.args in λ n l few. taken-hit (code_is a.sign) (code_is a.wanted) n a.first a.second a.third l few (same-code a.sign a.wanted c.eq.ensures c.if-eq.true) refl

pub returns : goal.returns
returns c = let a = c.args in λ n l few. taken-miss (code_is a.sign) (code_is a.wanted) n a.first a.second a.third l few (other-code a.sign a.wanted c.eq.ensures c.if-eq.false) c.refused.ensures
