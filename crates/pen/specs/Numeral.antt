-- A number's bytes, as a string of its digits (document 01, "The carrier and the words").
use Rattle.std.specs.Prelude.{ℕ, List}
use Rattle.sexp.specs.Sexp.{Sexp, spell}
use Rattle.sexp.specs.Decimal.{decimal}

unfoldable pub numeral : ℕ → List ℕ
numeral i = spell (Sexp.str (decimal i))
