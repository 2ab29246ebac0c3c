-- `letter` meets its contract: the library's test is `is_letter`.
use Rattle.sexp.specs.Words.{is_letter}
use Rattle.sexp.proofs.words.letter.Goals as goal

pub returns : goal.returns
unfolding is_letter
returns c = c.is_ascii_lowercase.ensures.value
