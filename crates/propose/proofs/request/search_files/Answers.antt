-- `search_files` of src/request.rt: the height, the files in turn, then the search.
use native.Mathlib.Omega.{arith}
use mathlib.Core.Path.{subst}
use Rattle.room.specs.Files.{Files}
use Rattle.propose.specs.Parts.{Searching}
use Rattle.propose.proofs.AnswerLaws.{too-high, file-at-fault, files-read}
use borrow.Author.Rules.{rules}
use Rattle.propose.proofs.request.search_files.Goals as goal

pub returns-then-height-gt32 : goal.returns-then-height-gt32
returns-then-height-gt32 c =
    let x = c.args in
    too-high x.height x.rules.now x.goal.now x.terms.now x.room.now x.strip.now c.refused.result c.if-height-gt32.true c.refused.ensures

pub returns-in-Err : goal.returns-in-Err
returns-in-Err c =
    let x = c.args in
    let y = c.read_books in
    file-at-fault x.height x.rules.now x.goal.now x.terms.now x.room.now x.strip.now (omega arith) y.result y.ensures c.in-Err.is

pub returns-in-Ok : goal.returns-in-Ok
returns-in-Ok c =
    let x = c.args in
    let y = c.read_books in
    let s = c.search_goal in
    files-read x.height x.rules.now x.goal.now x.terms.now x.room.now x.strip.now (omega arith) y.result y.ensures s.new.strip s.result c.in-Ok.is (subst (λ (f : Files). Searching x.height f x.room.now x.strip.now s.new.strip s.result) c.new.ensures s.ensures)
