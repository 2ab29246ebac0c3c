-- `may_fit` of src/plain.rt meets its contract. Assumes nothing.
use borrow.Author.Tests.{not-false}
use Rattle.proving.proofs.SettleLaws.{may_none, may-head}
use Rattle.proving.proofs.plain.may_fit.Goals as goal

pub returns-then-not-p : goal.returns-then-not-p
returns-then-not-p c = may_none

pub returns : goal.returns
returns c = may-head (not-false c.args.p.headed c.if-not-p.false) c.may_be.ensures
