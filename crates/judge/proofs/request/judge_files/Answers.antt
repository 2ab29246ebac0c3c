-- `judge_files` of src/request.rt: the two halves, one after the other.
use mathlib.Core.Path.{subst}
use native.Mathlib.Omega.{arith}
use Rattle.room.specs.Files.{Files}
use Rattle.judge.specs.Halves.{Requesting}
use Rattle.judge.proofs.request.judge_files.Goals as goal

pub returns : goal.returns
returns c l =
    let o = c.open_books-books in
    let r = c.judge_request in
    let k = o.auto.room in
    let h = subst (λ (f : Files). Requesting f c.args.strip.now o.new.room r.new.room o.result r.result) c.new.ensures r.ensures in
    (h o.ensures.found (omega arith) (o.ensures.tables l)).verdict
