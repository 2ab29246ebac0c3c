use Rattle.uses.proofs.uses.+follow.Given as goal

abbrev pub decreases-follow : goal.decreases-follow
decreases-follow l = l.nest
