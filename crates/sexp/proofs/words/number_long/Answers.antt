-- `number_long` meets its contract: the octets of the plain string there are a number.
use mathlib.Core.Path.{sym, subst}
use Rattle.sexp.specs.WordsAt.{NumberAt}
use Rattle.sexp.proofs.AnswerLaws.{plain-inside}
use Rattle.sexp.proofs.WordsAtLaws.{number-told}
use native.Mathlib.Omega.{arith}
use Rattle.sexp.proofs.words.number_long.Goals as goal

pub returns-in_err-from : goal.returns-in_err-from
returns-in_err-from c = subst (NumberAt c.args.s.now c.args.at) (sym c.from_residual.ensures) (λ w h e. c.in_err-from.ensures w h)

pub slice_bounds-number_of-end : goal.slice_bounds-number_of-end
slice_bounds-number_of-end c = let k = plain-inside c.in_ok-from.ensures in omega arith

pub returns : goal.returns
returns c = number-told c.args.s.now c.args.at c.in_ok-from.from c.in_ok-from.count c.in_ok-from.ensures c.number_of.result c.number_of.ensures
