-- `verbatim` (src/text.rt): a length of one digit is a law of ShortLaws, and any other is what `verbatim_long` finds.
use mathlib.Core.Path.{sym, ◌∙◌}
use lib.ListN.{get_or}
use Rattle.sexp.proofs.DecimalLaws.{digit_low}
use Rattle.sexp.proofs.ShortLaws.{short-spans}
use native.Mathlib.Omega.{arith}
use Rattle.sexp.proofs.text.verbatim.Goals as goal

pub overflow_sub-count : goal.overflow_sub-count
overflow_sub-count c = let x = c.args in digit_low (get_or x.s.now x.at 0) (sym c.digit.ensures ∙ c.if-digit.true)

pub returns-then-count-s : goal.returns-then-count-s
returns-then-count-s c = let x = c.args in let l = c.if-s-at-gt1.true in short-spans x.s.now x.at (omega arith) (sym c.digit.ensures ∙ c.if-digit.true) c.if-s-at-eq58.true c.if-count-s.true (omega arith)
