-- `judge_request` of src/request.rt: refused as the files come in turn, or judged.
use mathlib.Core.Path.{◌∙◌, ap}
use mathlib.Core.List.{List}
use Prim.Native.Nat.{ℕ}
use Rattle.packet.specs.File.{packet_of}
use Rattle.reader.specs.Judged.{packet_read}
use Rattle.judge.proofs.HalvesLaws.{request-refused, request-judged, strip-judged}
use Rattle.judge.proofs.request.judge_request.Goals as goal

pub returns-in-Err : goal.returns-in-Err
returns-in-Err c f l t =
    let x = c.args in
    let g = x.files.now in
    let read = c.read_files.ensures g.rules g.terms f ∙ ap (λ (gs : List ℕ). packet_read (packet_of g.rules gs g.terms x.strip.now)) c.file.ensures in
    request-refused g x.strip.now c.read_files.result read x.room.now c.in-Err.is

pub returns-in-Ok : goal.returns-in-Ok
returns-in-Ok c f l t =
    let x = c.args in
    let g = x.files.now in
    let v = c.judge_strip.result in
    let after = c.judge_strip.new.room in
    let read = c.read_files.ensures g.rules g.terms f ∙ ap (λ (gs : List ℕ). packet_read (packet_of g.rules gs g.terms x.strip.now)) c.file.ensures in
    request-judged g x.strip.now c.read_files.result read x.room.now after v c.in-Ok.is (strip-judged g x.strip.now x.room.now after v c.judge_strip.ensures l t)
