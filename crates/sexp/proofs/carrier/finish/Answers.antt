-- `finish` (src/carrier.rt): the end of the file, or a byte too many.
use Rattle.sexp.proofs.CarrierLaws.{finish-end, finish-more}
use Rattle.sexp.proofs.carrier.finish.Goals as goal

pub returns-then-at-s : goal.returns-then-at-s
returns-then-at-s c = let x = c.args in λ limit. finish-end x.s.now x.at x.v limit c.if-at-s.true

pub returns-else-at-s : goal.returns-else-at-s
returns-else-at-s c = let x = c.args in λ limit. finish-more x.s.now x.at x.v limit c.requires c.if-at-s.false
