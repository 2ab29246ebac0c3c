-- `put_byte` of src/lib.rt meets its contract. Assumes nothing.
use Rattle.pen.proofs.LaidLaws.{puts-byte, puts-out}
use native.Mathlib.Omega.{arith}
use Rattle.pen.proofs.put_byte.Goals as goal

pub returns-then-at-buf : goal.returns-then-at-buf
returns-then-at-buf c = puts-byte {at = c.args.at} {i = c.args.at} c.args.b c.args.buf.now (omega (arith, c.ranges)) (omega (arith, c.saturating_add-m.ensures))

pub returns : goal.returns
returns c = puts-out {at = c.args.at} {i = c.args.at} c.args.b c.args.buf.now (omega (arith, c.ranges)) (omega (arith, c.saturating_add-m.ensures)) c.if-at-buf.false
