-- `string` (src/cases.rt): the string that `plain` finds lies inside the case file.
use Rattle.programs.proofs.StringLaws.{no-string, a-string, string-inside}
use Rattle.sexp.proofs.AnswerLaws.{plain-span}
use native.Mathlib.Omega.{arith}
use Rattle.programs.proofs.cases.string.Goals as goal

pub overflow_add-result : goal.overflow_add-result
overflow_add-result c = let k = string-inside (plain-span c.in-Some.is c.plain.ensures) in let m = k.1.1 in omega arith

pub returns-in-None : goal.returns-in-None
returns-in-None c = record { string_at = no-string c.in-None.is c.plain.ensures; s_bound = (omega arith, (omega arith, omega arith)) }

pub returns-in-Some : goal.returns-in-Some
returns-in-Some c = let e = c.in-Some.is in let p = c.plain.ensures in record { string_at = a-string e p; s_bound = string-inside (plain-span e p) }
