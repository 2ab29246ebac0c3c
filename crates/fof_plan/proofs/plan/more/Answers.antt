-- `more` of src/plan.rt meets its contract. Assumes nothing.
use Rattle.fof_plan.proofs.PlanLaws.{more-next, more-none}
use Rattle.fof_pass.specs.Codes.{code_is}
use Rattle.fof_plan.proofs.plan.more.Goals as goal

pub returns-then-number-eq0 : goal.returns-then-number-eq0
returns-then-number-eq0 c = let a = c.args in more-none a.conj a.sort (code_is a.sign) a.number c.if-number-eq0.true c.writing.ensures

pub returns : goal.returns
returns c = let a = c.args in more-next a.conj a.sort (code_is a.sign) a.number (code_is c.link_sign.result) c.if-number-eq0.false c.link_sign.ensures c.taken.ensures
