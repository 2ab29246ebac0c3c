-- `past_string` meets its contract: a length of one digit is a law of SkipLaws, and any other string is what `text` reads, with hints.
use mathlib.Core.Path.{sym, ◌∙◌}
use lib.ListN.{get_or}
use Rattle.sexp.proofs.DecimalLaws.{digit_low}
use Rattle.sexp.proofs.StandLaws.{stands-before}
use Rattle.sexp.proofs.SkipLaws.{past-spans, past-stuck, string-short, string-long}
use native.Mathlib.Omega.{arith}
use Rattle.sexp.proofs.skip.past_string.Goals as goal

pub returns-then-s-at : goal.returns-then-s-at
returns-then-s-at c = λ e h d. let k = stands-before h in omega arith

pub overflow_sub-end : goal.overflow_sub-end
overflow_sub-end c = digit_low (get_or c.args.s.now c.args.at 0) (sym c.digit.ensures ∙ c.if-digit.true)

pub returns-then-s-end : goal.returns-then-s-end
returns-then-s-end c = let x = c.args in string-long x.s.now x.at (omega arith) (omega arith) (sym c.digit.ensures ∙ c.if-digit.true) c.if-s-at-eq58.true c.if-s-end.true

pub returns-then-digit : goal.returns-then-digit
returns-then-digit c = let x = c.args in string-short x.s.now x.at (omega arith) (omega arith) (sym c.digit.ensures ∙ c.if-digit.true) c.if-s-at-eq58.true c.if-s-end.false

pub returns-in-Err : goal.returns-in-Err
returns-in-Err c = let x = c.args in past-stuck x.s.now x.at c.in-Err.field-0 c.text.result c.in-Err.is c.text.ensures

pub returns-in-Ok : goal.returns-in-Ok
returns-in-Ok c = let x = c.args in past-spans x.s.now x.at c.in-Ok.field-0-0 c.in-Ok.end c.text.result c.in-Ok.is c.text.ensures
