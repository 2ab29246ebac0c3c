-- `refused` of src/request.rt: what a refusal is answered by.
use Rattle.proposal.specs.Proposed.{proposal}
use mathlib.Core.Path.{refl}
use Rattle.propose.proofs.request.refused.Goals as goal

pub returns : goal.returns
unfolding proposal
returns c = refl
