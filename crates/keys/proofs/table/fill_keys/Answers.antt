-- `fill_keys` of src/table.rt meets its contract. Assumes nothing.
use Rattle.keys.proofs.FillLaws.{keys_filled}
use Rattle.keys.proofs.table.fill_keys.Goals as goal

pub returns : goal.returns
returns c = let x = c.args in
    let kept = c.keep_candidates in
    let ruled = c.keep_rules in
    let chained = c.fill_chains in
    keys_filled x.room.now kept.new.room ruled.new.room chained.new.room c.fill_chains-2.new.room x.rules.now x.terms.now kept.ensures ruled.ensures c.word-n.ensures chained.ensures c.word-m.ensures c.fill_chains-2.ensures
