-- `is_candidate` of src/head.rt meets its contract. Assumes nothing.
use Rattle.unset.proofs.CandidateLaws.{bytes-decide}
use Rattle.unset.proofs.head.is_candidate.Goals as goal

pub returns : goal.returns
returns c = let x = c.args in
    bytes-decide x.files.now x.room.now x.y x.i c.candidate_spot.ensures c.same_terms.ensures
