-- `past_variable` of src/variables.rt meets its contract. Assumes nothing.
use borrow.Author.Tests.{not-false}
use Rattle.held.proofs.MeetLaws.{variable-ends}
use native.Mathlib.Omega.{arith}
use Rattle.held.proofs.variables.past_variable.Goals as goal

pub returns : goal.returns
returns c = let x = c.args in
    variable-ends x.s.now x.at x.nest x.i (omega arith) (omega arith) c.plus.ensures c.closes.ensures (not-false c.closes.result c.if-not-closes.false-raw) c.plus-2.ensures
