-- `short` meets its contract: a length of one digit is a law of SkipLaws.
use mathlib.Core.Path.{sym, ◌∙◌}
use lib.ListN.{get_or}
use Rattle.sexp.proofs.DecimalLaws.{digit_low}
use Rattle.sexp.proofs.SkipLaws.{plain-short}
use native.Mathlib.Omega.{arith}
use Rattle.sexp.proofs.words.short.Goals as goal

pub overflow_sub-count : goal.overflow_sub-count
overflow_sub-count c = digit_low (get_or c.args.s.now c.args.at 0) (sym c.digit.ensures ∙ c.if-not-digit.false)

pub returns-then-count-s : goal.returns-then-count-s
returns-then-count-s c =
    let x = c.args in
    let d = sym c.digit.ensures ∙ c.if-not-digit.false in
    plain-short x.s.now x.at (omega arith) d c.if-s-at-ne58.false c.if-count-s.true (omega arith)
