use Rattle.proving.proofs.plain.+chain_of.Given as goal

abbrev pub decreases-chain_of : goal.decreases-chain_of
decreases-chain_of l = l.nest
