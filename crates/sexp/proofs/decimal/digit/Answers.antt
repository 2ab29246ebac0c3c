-- `digit` (src/decimal.rt): the library's test is `is_digit`.
use Rattle.sexp.specs.Decimal.{is_digit}
use Rattle.sexp.proofs.decimal.digit.Goals as goal

pub returns : goal.returns
unfolding is_digit
returns c = c.is_ascii_digit.ensures.value
