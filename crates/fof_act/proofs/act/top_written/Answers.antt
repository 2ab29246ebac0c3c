-- `top_written` of src/act.rt meets its contract. Assumes nothing.
use Rattle.fof_pass.proofs.InkLaws.{inks-then}
use Rattle.fof_act.proofs.act.top_written.Goals as goal

pub returns : goal.returns
returns c = inks-then c.head-p.ensures c.end.ensures
