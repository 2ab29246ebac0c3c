-- `number` meets its contract: one digit is a law of ShortLaws, and any other number is what `number_long` finds.
use Prim.Native.Nat.{◌+◌}
use mathlib.Core.Path.{sym, ◌∙◌}
use lib.ListN.{get_or}
use Rattle.sexp.proofs.DecimalLaws.{digit_low}
use Rattle.sexp.proofs.ShortLaws.{short-number}
use native.Mathlib.Omega.{arith}
use Rattle.sexp.proofs.words.number.Goals as goal

pub overflow_sub-result : goal.overflow_sub-result
overflow_sub-result c = let x = c.args in digit_low (get_or x.s.now (x.at + 2) 0) (sym c.digit.ensures ∙ c.if-digit.true)

pub returns-then-digit : goal.returns-then-digit
returns-then-digit c = let x = c.args in let l = c.if-s-at-gt2.true in short-number x.s.now x.at (omega arith) c.if-s-at-eq49.true c.if-s-at-eq58.true (sym c.digit.ensures ∙ c.if-digit.true)
