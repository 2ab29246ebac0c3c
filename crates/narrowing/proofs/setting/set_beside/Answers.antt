-- `set_beside` of src/setting.rt meets its contract. Assumes nothing.
use Rattle.narrowing.proofs.SetLaws.{beside_none, beside-all}
use Rattle.narrowing.proofs.setting.set_beside.Goals as goal

pub returns-then-asked-eq0 : goal.returns-then-asked-eq0
returns-then-asked-eq0 c = beside_none c.args.asked

pub returns-in_default : goal.returns-in_default
returns-in_default c = beside_none c.args.asked

pub returns : goal.returns
returns c = beside-all c.args.asked c.if-asked-eq0.false c.part-s.ensures.bytes c.past.ensures c.in-Some.is c.set_from.ensures
