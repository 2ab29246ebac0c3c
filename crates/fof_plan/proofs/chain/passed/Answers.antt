-- `passed` of src/chain.rt meets its contract. Assumes nothing.
use Rattle.fof_plan.proofs.ChainLaws.{pass-open, pass-link, pass-plain, pass-shut, pass-inside}
use Rattle.fof_pass.specs.Codes.{code_is}
use native.Mathlib.Omega.{arith}
use Rattle.fof_plan.proofs.chain.passed.Goals as goal

pub returns-then-opens : goal.returns-then-opens
returns-then-opens c = let x = c.args in pass-open (code_is x.sign) x.depth x.first x.number c.opens.ensures c.if-opens.true (record { is = λ l. omega (arith, c.saturating_add-depth.ensures); most = omega (arith, c.saturating_add-depth.ensures) })

pub returns-then-connects : goal.returns-then-connects
returns-then-connects c = let x = c.args in pass-link (code_is x.sign) x.depth x.first x.number c.if-depth-eq0.true c.connects.ensures c.if-connects.true c.first_of-first.ensures (record { is = λ l. omega (arith, c.saturating_add-number.ensures); most = omega (arith, c.saturating_add-number.ensures) })

pub returns-then-depth-eq0 : goal.returns-then-depth-eq0
returns-then-depth-eq0 c = let x = c.args in pass-plain (code_is x.sign) x.depth x.first x.number c.opens.ensures c.if-opens.false c.if-depth-eq0.true c.connects.ensures c.if-connects.false

pub returns-then-shuts : goal.returns-then-shuts
returns-then-shuts c = let x = c.args in pass-shut (code_is x.sign) x.depth x.first x.number c.if-depth-eq0.false c.shuts.ensures c.if-shuts.true

pub returns : goal.returns
returns c = let x = c.args in pass-inside (code_is x.sign) x.depth x.first x.number c.opens.ensures c.if-opens.false c.if-depth-eq0.false c.shuts.ensures c.if-shuts.false
