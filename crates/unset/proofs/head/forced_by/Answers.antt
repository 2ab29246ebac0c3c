-- `forced_by` of src/head.rt meets its contract. Assumes nothing.
use Rattle.unset.proofs.HeadLaws.{forces-nothing, forced-there}
use Rattle.std.specs.Prelude.{Some, None}
use Rattle.unset.proofs.head.forced_by.Goals as goal

pub returns-in_default : goal.returns-in_default
returns-in_default c = let x = c.args in
    forces-nothing x.files.now x.room.now x.x x.y x.v

pub returns-in-Some-candidate_at : goal.returns-in-Some-candidate_at
returns-in-Some-candidate_at c = let x = c.args in
    forced-there x.files.now x.x x.y x.v c.beside.ensures c.in-Some.is x.room.now (Some c.in-Some-candidate_at.c) c.further.ensures c.candidate_at.ensures c.in-Some-candidate_at.is

pub returns-in-None : goal.returns-in-None
returns-in-None c = let x = c.args in
    forced-there x.files.now x.x x.y x.v c.beside.ensures c.in-Some.is x.room.now None c.further.ensures c.candidate_at.ensures c.in-None.is
