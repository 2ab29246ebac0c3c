-- `behind_imp` of src/predicate.rt meets its contract. Assumes nothing.
use Rattle.heads.proofs.PredicateLaws.{imp-lost, imp_head}
use native.Mathlib.Omega.{arith}
use borrow.Author.Rules.{rules}
use Rattle.heads.proofs.predicate.behind_imp.Goals as goal

pub returns-in_default : goal.returns-in_default
returns-in_default c = λ nest. imp-lost nest c.past_part.ensures c.in_default.is

pub returns : goal.returns
returns c = λ nest. imp_head nest c.past_part.ensures c.in-Some.is c.further.ensures c.same_there.ensures
