-- `set_from` of src/setting.rt meets its contract. Assumes nothing.
use mathlib.Core.Path.{◌∙◌}
use Rattle.narrowing.proofs.SetLaws.{from-none, from_next}
use Rattle.narrowing.proofs.setting.+set_from.Goals as goal

pub returns-then-asked-eq0 : goal.returns-then-asked-eq0
returns-then-asked-eq0 t c = from-none c.args.asked

pub returns-then-closes : goal.returns-then-closes
returns-then-closes t c = from-none c.args.asked

pub returns-in_default : goal.returns-in_default
returns-in_default t c = from-none c.args.asked

pub shape_of-room : goal.shape_of-room
shape_of-room t c = c.set_from.auto.room ∙ c.set_one.auto.room

pub returns : goal.returns
returns t c = from_next c.args.asked c.if-asked-eq0.false c.part-s.ensures.bytes c.closes.ensures c.if-closes.false c.past.ensures c.in-Some.is c.further.ensures c.set_one.ensures c.set_from.ensures
