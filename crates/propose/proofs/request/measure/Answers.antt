-- `measure` of src/request.rt: the first strip drawn from place 0 on, for its measures and its bytes.
use Rattle.propose.proofs.PartsLaws.{measured}
use borrow.Author.Rules.{rules}
use Rattle.propose.proofs.request.measure.Goals as goal

pub returns : goal.returns
returns c =
    let x = c.args in
    measured x.height x.files.now x.room.now c.write_goal.new.room c.first_place-w.result c.first_place-w.ensures x.scratch.now c.write_goal.new.strip c.write_goal.result c.write_goal.ensures c.write_goal.auto.room
