-- `name_octet` meets its contract.
use mathlib.Core.Path.{sym, ◌∙◌}
use mathlib.Core.Bool.{false≢true}
use Rattle.sexp.proofs.NameLaws.{octet-letter, octet-digit, octet-other}
use Rattle.sexp.proofs.words.name_octet.Goals as goal
use Rattle.sexp.proofs.words.name_octet.Goals.{then-letter, else-letter}

pub returns-then-digit : goal.returns-then-digit
returns-then-digit c =
    elim c.if-letter.branch [
      | then-letter w ↦ c.if-digit.true ∙ octet-letter c.args.b (sym c.letter.ensures ∙ w.if-letter.true)
      | else-letter w ↦ c.if-digit.true ∙ octet-digit c.args.b (sym c.letter.ensures ∙ w.if-letter.false) (sym w.digit.ensures ∙ sym w.value-is ∙ c.if-digit.true)
    ]

pub returns-else-digit : goal.returns-else-digit
returns-else-digit c =
    elim c.if-letter.branch [
      | then-letter w ↦ absurd (false≢true (sym c.if-digit.false ∙ w.value-is ∙ w.if-letter.true))
      | else-letter w ↦ octet-other c.args.b (sym c.letter.ensures ∙ w.if-letter.false) (sym w.digit.ensures ∙ sym w.value-is ∙ c.if-digit.false)
    ]
