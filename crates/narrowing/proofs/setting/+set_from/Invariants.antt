use Rattle.narrowing.proofs.setting.+set_from.Given as goal

abbrev pub decreases-set_from : goal.decreases-set_from
decreases-set_from l = l.asked
