use Rattle.walk.proofs.down.+node.Given as goal

abbrev pub decreases-node : goal.decreases-node
decreases-node l = l.nest
