use Rattle.narrow.proofs.rule.+head_at.Given as goal

abbrev pub decreases-head_at : goal.decreases-head_at
decreases-head_at l = l.nest
