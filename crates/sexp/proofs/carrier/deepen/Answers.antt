-- `deepen` (src/carrier.rt): each verdict so far, after a list is opened.
use Rattle.sexp.proofs.CarrierLaws.{deeper-here, deeper-not, deeper-fault, deeper-deep}
use Rattle.sexp.proofs.carrier.deepen.Goals as goal

pub returns-then-lists-limit : goal.returns-then-lists-limit
returns-then-lists-limit c = let x = c.args in deeper-here x.limit x.lists x.at x.v c.in-Sound.is c.if-lists-limit.true

pub returns-else-lists-limit : goal.returns-else-lists-limit
returns-else-lists-limit c = let x = c.args in deeper-not x.limit x.lists x.at x.v c.in-Sound.is c.if-lists-limit.false

pub returns-in-Fault : goal.returns-in-Fault
returns-in-Fault c = let x = c.args in deeper-fault x.limit x.lists x.at x.v c.in-Fault.o c.in-Fault.is

pub returns-in-Deep : goal.returns-in-Deep
returns-in-Deep c = let x = c.args in deeper-deep x.limit x.lists x.at x.v c.in-Deep.o c.in-Deep.is
