-- `take` of src/path.rt meets its contract. Assumes nothing.
use Rattle.table.proofs.PathLaws.{carried-as}
use native.Mathlib.Omega.{arith}
use borrow.Author.Rules.{rules}
use Rattle.table.proofs.path.take.Goals as goal

pub returns : goal.returns
returns c = λ h. carried-as (c.numbers_word-from.ensures h) c.numbers-n.ensures c.carry.ensures
