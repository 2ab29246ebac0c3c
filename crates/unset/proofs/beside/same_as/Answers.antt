-- `same_as` of src/beside.rt meets its contract. Assumes nothing.
use Rattle.unset.proofs.HeadLaws.{same-there}
use Rattle.unset.proofs.beside.same_as.Goals as goal

pub returns : goal.returns
returns c = let x = c.args in
    same-there x.files.now x.x x.y x.v c.beside.ensures c.in_ok-q.was c.variable_at.result c.part.ensures.bytes c.variable_at.ensures
