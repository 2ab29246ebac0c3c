-- `rule_key` of src/rule.rt meets its contract. Assumes nothing.
use Rattle.keys.proofs.RuleLaws.{rule-there}
use Rattle.keys.proofs.rule.rule_key.Goals as goal

pub returns : goal.returns
returns c = let x = c.args in
    rule-there x.files.now x.x c.clause_key.result c.file-s.ensures c.clause_key.ensures
