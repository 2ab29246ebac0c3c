use Rattle.keys.proofs.rule.+clause_key.Given as goal

abbrev pub decreases-clause_key : goal.decreases-clause_key
decreases-clause_key l = l.nest
