use Rattle.arguments.proofs.numbers.+arguments_from.Given as goal

abbrev pub decreases-arguments_from : goal.decreases-arguments_from
decreases-arguments_from l = l.most
