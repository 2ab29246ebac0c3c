-- `behind_imp` of src/rule.rt meets its contract. Assumes nothing.
use Rattle.keys.proofs.RuleLaws.{imp-lost, imp_head}
use Rattle.keys.proofs.rule.behind_imp.Goals as goal

pub returns-in_default : goal.returns-in_default
returns-in_default c = imp-lost c.args.t.now c.past.ensures 0 c.in_default.is

pub returns : goal.returns
returns c = imp_head c.args.t.now c.past.ensures c.head_key.result c.in-Some.is c.from.ensures c.head_key.ensures
