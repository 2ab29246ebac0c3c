-- `string` (src/main.rt): the string that `plain` finds lies inside the case file and is not empty.
use Rattle.sexp.specs.Sexp.{str}
use Rattle.sexp.specs.Strings.{Plain}
use Rattle.sexp.proofs.OntoLaws.{spell-some}
use Rattle.sexp.proofs.AnswerLaws.{plain-span, plain-inside}
use native.Mathlib.Omega.{arith}
use Rattle.carrier_cases.proofs.string.Goals as goal
use Rattle.carrier_cases.proofs.string.Goals.{In-Some}

-- the string that was read
string-known : (c : In-Some) → Plain c.args.s.now c.args.at c.in-Some.from c.in-Some.n
string-known c = plain-span c.in-Some.is c.plain.ensures

pub overflow_add-result : goal.overflow_add-result
overflow_add-result c = let k = string-known (goal.at.overflow_add-result c).In-Some in omega (arith, plain-inside k)

pub returns-in-Some : goal.returns-in-Some
returns-in-Some c =
    let k = string-known (goal.at.returns-in-Some c).In-Some in
    let n = spell-some (str k.octets) in
    (omega (arith, k.ends), (omega arith, omega (arith, plain-inside k)))
