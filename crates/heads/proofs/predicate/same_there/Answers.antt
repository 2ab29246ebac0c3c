-- `same_there` of src/predicate.rt meets its contract. Assumes nothing.
use Rattle.heads.proofs.PredicateLaws.{same-there}
use native.Mathlib.Omega.{arith}
use borrow.Author.Rules.{rules}
use Rattle.heads.proofs.predicate.same_there.Goals as goal

pub returns : goal.returns
returns c = let x = c.args in
    same-there x.files.now x.x x.y c.same_predicate.result c.part.ensures.bytes c.part-2.ensures.bytes c.same_predicate.ensures
