-- Whether a slot has words enough for the numbers of a clause, by the clause's parts. Assumes nothing.
use borrow.Author.Rules.{rules}
use mathlib.Core.Bool.{false≢true}
use Rattle.drawing.proofs.FirstLaws as laws
use Rattle.drawing.proofs.first.has_numbers.Goals as goal

pub returns-in_default : goal.returns-in_default
returns-in_default c = λ ds us height o hand bs g ready yes. absurd (false≢true yes)

pub returns-in_default-parts_of : goal.returns-in_default-parts_of
returns-in_default-parts_of c = let x = c.args in
    laws.numbers-none x.at x.k c.at_hand.ensures c.in-Some.is c.parts_of.ensures c.in_default-parts_of.is

pub returns : goal.returns
returns c = let x = c.args in
    laws.numbers-told x.at x.k c.at_hand.ensures c.in-Some.is c.parts_of.ensures c.in-Some-parts_of.is c.numbers.ensures
