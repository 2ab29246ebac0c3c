-- `candidate_spot` of src/head.rt meets its contract. Assumes nothing.
use Rattle.unset.proofs.CandidateLaws.{terms_spot}
use mathlib.Core.Path.{ap}
use Rattle.unset.proofs.head.candidate_spot.Goals as goal

pub returns : goal.returns
returns c = ap terms_spot c.word-at.ensures
