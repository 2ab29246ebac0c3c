use Rattle.proving.proofs.plain.+parts_from.Given as goal

abbrev pub decreases-parts_from : goal.decreases-parts_from
decreases-parts_from l = l.nest
