-- The number of three octets.
use Prim.Native.Nat.{◌+◌}
use Rattle.reader.proofs.KeyLaws.{keyed-three}
use native.Mathlib.Omega.{arith}
use borrow.Author.Rules.{rules}
use Rattle.reader.proofs.words.key_three.Goals as goal

pub overflow_cast-a : goal.overflow_cast-a
overflow_cast-a c = omega (arith, c.shared_slice_known-1.given c.args.from)

pub overflow_cast-b : goal.overflow_cast-b
overflow_cast-b c = omega (arith, c.shared_slice_known-2-1.given (c.args.from + 1))

pub overflow_cast-c : goal.overflow_cast-c
overflow_cast-c c = omega (arith, c.shared_slice_known-3-1.given (c.args.from + 2))

pub overflow_mul-result : goal.overflow_mul-result
overflow_mul-result c = omega (arith, c.shared_slice_known-3-1.given c.args.from, c.shared_slice_known-3-1.given (c.args.from + 1), c.shared_slice_known-3-1.given (c.args.from + 2))

pub overflow_add-result : goal.overflow_add-result
overflow_add-result c = omega (arith, c.shared_slice_known-3-1.given c.args.from, c.shared_slice_known-3-1.given (c.args.from + 1), c.shared_slice_known-3-1.given (c.args.from + 2))

pub overflow_mul-result-2 : goal.overflow_mul-result-2
overflow_mul-result-2 c = omega (arith, c.shared_slice_known-3-1.given c.args.from, c.shared_slice_known-3-1.given (c.args.from + 1), c.shared_slice_known-3-1.given (c.args.from + 2))

pub overflow_add-result-2 : goal.overflow_add-result-2
overflow_add-result-2 c = omega (arith, c.shared_slice_known-3-1.given c.args.from, c.shared_slice_known-3-1.given (c.args.from + 1), c.shared_slice_known-3-1.given (c.args.from + 2))

pub overflow_add-result-3 : goal.overflow_add-result-3
overflow_add-result-3 c = omega (arith, c.shared_slice_known-3-1.given c.args.from, c.shared_slice_known-3-1.given (c.args.from + 1), c.shared_slice_known-3-1.given (c.args.from + 2))

pub returns : goal.returns
returns c = let x = c.args in keyed-three x.s.now x.from (λ i. omega (arith, c.shared_slice_known-3-1.given i)) c.requires
