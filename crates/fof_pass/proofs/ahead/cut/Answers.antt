-- `cut` of src/ahead.rt meets its contract. Assumes nothing.
use Rattle.fof_pass.proofs.AheadLaws.{cut-is}
use Rattle.fof_pass.proofs.ahead.cut.Goals as goal

pub returns : goal.returns
returns c = cut-is c.args.text.now c.args.start c.args.end c.min-e.result c.min-s.result c.min-e.ensures c.min-s.ensures
