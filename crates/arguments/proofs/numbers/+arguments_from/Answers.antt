-- `arguments_from` of src/numbers.rt meets its contract. Assumes nothing.
use native.Mathlib.Omega.{arith}
use Rattle.arguments.proofs.NumberLaws.{arguments-end, arguments-more}
use Rattle.arguments.proofs.numbers.+arguments_from.Goals as goal

pub returns-then-closes : goal.returns-then-closes
returns-then-closes t c = let x = c.args in
    arguments-end x.files.now x.room.now x.x x.p x.own x.v c.part-s.ensures.bytes c.closes.ensures c.if-closes.true

pub returns-then-k-lt1024 : goal.returns-then-k-lt1024
returns-then-k-lt1024 t c = let x = c.args in
    arguments-more x.files.now x.room.now x.x x.p x.own x.v c.part-s.ensures.bytes c.closes.ensures c.if-closes.false c.past.ensures c.in_ok-n.was c.arguments_from.ensures c.in_ok-rest.was (omega (arith, c.if-rest-ge1048576.false)) c.further.ensures c.number_at-k.ensures c.if-k-lt1024.true
