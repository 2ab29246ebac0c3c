-- `meet` of src/matching.rt meets its contract. Assumes nothing.
use borrow.Author.Tests.{not-false}
use Rattle.proving.proofs.SettleLaws.{meet-none, meet-never, meet-open, meet-same}
use Rattle.proving.proofs.matching.meet.Goals as goal

pub returns-then-not-p : goal.returns-then-not-p
returns-then-not-p c = meet-none

pub returns-in-Never : goal.returns-in-Never
returns-in-Never c = meet-never (not-false c.args.p.headed c.if-not-p.false) c.match_head.ensures c.in-Never.is

pub returns-in-Open : goal.returns-in-Open
returns-in-Open c = meet-open (not-false c.args.p.headed c.if-not-p.false) c.match_head.ensures c.in-Open.is

pub returns-in-Same : goal.returns-in-Same
returns-in-Same c = meet-same (not-false c.args.p.headed c.if-not-p.false) c.match_head.ensures c.in-Same.is c.compared.ensures
