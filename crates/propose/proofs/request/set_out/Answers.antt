-- `set_out` of src/request.rt: the tables of rules and candidates, their numbers, the heads of rules and their arguments, and the table of atoms emptied.
use Rattle.propose.proofs.PartsLaws.{set-out-from}
use borrow.Author.Rules.{rules}
use Rattle.propose.proofs.request.set_out.Goals as goal

pub returns : goal.returns
returns c =
    let x = c.args in
    let t = c.fill_tables in
    let k = c.fill_keys in
    let d = c.fill_heads in
    let g = c.fill_arguments in
    let e = c.empty_all in
    set-out-from x.files.now c.file-rules.result.now c.file-terms.result.now c.file-rules.ensures c.file-terms.ensures x.room.now t.new.room k.new.room d.new.room g.new.room e.new.room t.auto.room t.ensures k.ensures d.ensures g.ensures e.ensures.only e.ensures.none
