-- The first clause for an atom, as the table has kept it or as crate provable finds it. Assumes nothing.
use borrow.Author.Rules.{rules}
use borrow.Author.Tests.{not-false}
use Rattle.drawing.proofs.FirstLaws as laws
use Rattle.drawing.proofs.first.first_clause.Goals as goal

pub returns-in_default : goal.returns-in_default
returns-in_default c = let k = c.both_keys-of.ensures in
    let m = c.find_clause.ensures in
    (laws.clause-found k.0 k.1 m.0, laws.clause-located k.0 k.1 m.1)

pub returns-then-not-has_numbers : goal.returns-then-not-has_numbers
returns-then-not-has_numbers c = let k = c.both_keys-of.ensures in
    let m = c.find_clause-then-not-has_numbers.ensures in
    (laws.clause-found k.0 k.1 m.0, laws.clause-located k.0 k.1 m.1)

pub returns : goal.returns
returns c = (laws.clause-chosen c.args.left c.plus.ensures c.slot_for-at.ensures.1 (rw c.in-Some.is at c.chosen.ensures) c.has_numbers.ensures (not-false _ c.if-not-has_numbers.false-raw) c.take.ensures, laws.chosen-located c.args.left c.plus.ensures c.slot_for-at.ensures.1 (rw c.in-Some.is at c.chosen.ensures) c.has_numbers.ensures (not-false _ c.if-not-has_numbers.false-raw) c.take.ensures)
