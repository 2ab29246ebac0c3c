-- `has_proof` of src/request.rt: crate provable's answer at the root place.
use Rattle.propose.proofs.PartsLaws.{told}
use borrow.Author.Rules.{rules}
use Rattle.propose.proofs.request.has_proof.Goals as goal

pub returns : goal.returns
returns c =
    let x = c.args in
    told x.height x.files.now x.room.now c.prove_goal.new.room c.first_place.result c.first_place.ensures c.prove_goal.result c.prove_goal.auto.room c.prove_goal.ensures
