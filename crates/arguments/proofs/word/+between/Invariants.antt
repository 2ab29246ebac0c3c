use Rattle.arguments.proofs.word.+between.Given as goal

abbrev pub decreases-between : goal.decreases-between
decreases-between l = l.most
