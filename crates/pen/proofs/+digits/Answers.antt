-- `digits` of src/lib.rt meets its contract. Assumes nothing.
use mathlib.Core.Path.{sym, ap, ◌∙◌}
use native.Mathlib.Omega.{arith}
use Rattle.pen.proofs.NumeralLaws.{length-small, length_more, few-digits}
use Prim.Native.Nat.{ℕ, ◌+◌, ◌/◌}
use Rattle.pen.proofs.+digits.Goals as goal

pub returns-then-n-lt10 : goal.returns-then-n-lt10
returns-then-n-lt10 t c = sym (length-small c.args.n c.if-n-lt10.true)

pub overflow_add-result : goal.overflow_add-result
overflow_add-result t c = let e = c.digits.ensures in let f = few-digits (c.args.n / 10) in omega arith

pub returns : goal.returns
returns t c = ap (λ (x : ℕ). x + 1) c.digits.ensures ∙ sym (length_more c.args.n c.if-n-lt10.false)
