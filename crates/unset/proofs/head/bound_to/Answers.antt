-- `bound_to` of src/head.rt meets its contract. Assumes nothing.
use borrow.Author.Tests.{not-false}
use Rattle.unset.proofs.CandidateLaws.{bound-there}
use Rattle.unset.proofs.head.bound_to.Goals as goal

pub returns-in-Candidate : goal.returns-in-Candidate
returns-in-Candidate c = let x = c.args in
    bound-there x.files.now x.room.now x.y c.part-t.ensures.bytes c.is_word.ensures (not-false c.is_word.result c.if-not-is_word.false-raw) c.number.ensures c.in_ok-j.was c.variable.ensures c.in-Candidate.is
