-- `candidate_at` of src/head.rt meets its contract. Assumes nothing.
use Rattle.unset.proofs.CandidateLaws.{bound-serves, lowest-serves}
use Rattle.unset.proofs.head.candidate_at.Goals as goal

pub returns-then-c-n : goal.returns-then-c-n
returns-then-c-n c = let x = c.args in
    bound-serves x.files.now x.room.now x.y c.lowest.result c.word-n.ensures c.bound_to.ensures c.in-Some.is c.if-c-n.true c.word-key.ensures c.lowest.ensures c.unwrap_or.ensures

pub returns : goal.returns
returns c = let x = c.args in
    lowest-serves x.files.now x.room.now x.y c.lowest-2.result c.word-n.ensures c.term_key.ensures c.lowest-2.ensures
