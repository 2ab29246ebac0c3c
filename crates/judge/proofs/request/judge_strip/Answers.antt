-- `judge_strip` of src/request.rt: the walk from the root place says the verdict.
use Rattle.judge.proofs.RootLaws.{strip-fits, strip-misfits}
use Rattle.judge.proofs.request.judge_strip.Goals as goal

pub returns-in-Ok : goal.returns-in-Ok
returns-in-Ok c =
    let x = c.args in
    strip-fits x.files.now x.strip.now x.room.now c.node.new.room c.first_place.result c.node.result c.first_place.ensures c.node.ensures.judged c.in-Ok.is

pub returns-in-Err : goal.returns-in-Err
returns-in-Err c =
    let x = c.args in
    strip-misfits x.files.now x.strip.now x.room.now c.node.new.room c.first_place.result c.node.result c.first_place.ensures c.node.ensures.judged c.in-Err.is
