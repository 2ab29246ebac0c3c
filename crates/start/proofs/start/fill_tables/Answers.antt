-- `fill_tables` of src/start.rt: the table of rules stays right while that of candidates is filled.
use borrow.Author.Rules.{rules}
use Rattle.room.proofs.StartLaws.{tabled}
use Rattle.start.proofs.start.fill_tables.Goals as goal

pub returns : goal.returns
returns c =
    let x = c.args in
    tabled x.rules.now x.terms.now x.room.now c.fill_rules.new.room c.fill_candidates.new.room c.fill_rules.ensures c.fill_candidates.ensures
