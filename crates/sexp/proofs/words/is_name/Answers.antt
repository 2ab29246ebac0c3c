-- `is_name` meets its contract: the octets of the plain string there are a name.
use Rattle.sexp.proofs.AnswerLaws.{plain-span, plain-nothing, plain-inside}
use Rattle.sexp.proofs.WordsAtLaws.{name-told}
use native.Mathlib.Omega.{arith}
use Rattle.sexp.proofs.words.is_name.Goals as goal

pub slice_bounds-is_name_of-end : goal.slice_bounds-is_name_of-end
slice_bounds-is_name_of-end c = let k = plain-inside (plain-span c.in-Some.is c.plain.ensures) in omega arith

pub returns-in_default : goal.returns-in_default
returns-in_default c = λ h. plain-nothing c.in_default.is c.plain.ensures h.octets h.stands

pub returns : goal.returns
returns c = name-told c.args.s.now c.args.at c.in-Some.from c.in-Some.count (plain-span c.in-Some.is c.plain.ensures) c.is_name_of.result c.is_name_of.ensures
