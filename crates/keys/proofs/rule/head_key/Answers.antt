-- `head_key` of src/rule.rt meets its contract. Assumes nothing.
use Rattle.keys.proofs.RuleLaws.{head-lost, head-open, head-closed}
use Rattle.keys.proofs.rule.head_key.Goals as goal

pub returns-in_default : goal.returns-in_default
returns-in_default c = head-lost c.args.t.now c.past.ensures 0 c.in_default.is

pub returns-then-have_variable : goal.returns-then-have_variable
returns-then-have_variable c = head-open c.args.t.now c.past.ensures c.in-Some.is c.have_variable.ensures c.predicate_of.result c.if-have_variable.true c.predicate_of.ensures

pub returns : goal.returns
returns c = let x = c.args in
    head-closed x.t.now c.past.ensures c.in-Some.is c.have_variable.ensures x.room.now c.atom_of.result c.if-have_variable.false c.nowhere.ensures c.atom_of.ensures
