-- `search_goal` of src/request.rt: no strip, or what becomes of the first.
use borrow.Author.Tests.{not-true, not-false}
use Rattle.propose.proofs.AnswerLaws.{none_found, some-found}
use borrow.Author.Rules.{rules}
use Rattle.propose.proofs.request.search_goal.Goals as goal

pub returns-then-not-has_proof : goal.returns-then-not-has_proof
returns-then-not-has_proof c =
    let x = c.args in
    let t = c.set_out in
    let y = c.has_proof in
    none_found x.height x.files.now x.room.now t.new.room y.new.room x.strip.now y.result (t.ensures x.height x.files.now.goal) y.ensures c.refused.result (not-true y.result c.if-not-has_proof.true-raw) c.refused.ensures

pub returns : goal.returns
returns c =
    let x = c.args in
    let t = c.set_out in
    let y = c.has_proof in
    let w = c.write in
    some-found x.height x.files.now x.room.now t.new.room y.new.room x.strip.now y.result (t.ensures x.height x.files.now.goal) y.ensures w.new.strip w.result (not-false y.result c.if-not-has_proof.false-raw) w.ensures
