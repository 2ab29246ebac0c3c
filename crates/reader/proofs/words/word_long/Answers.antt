-- The word of the plain string at an offset.
use mathlib.Core.Path.{refl, sym, ap, ◌∙◌}
use Rattle.sexp.proofs.AnswerLaws.{plain-inside}
use Rattle.packet.specs.Table.{word_of}
use Rattle.reader.specs.WordAt.{of, no}
use Rattle.reader.proofs.WordLaws.{octets-part}
use native.Mathlib.Omega.{arith}
use Rattle.reader.proofs.words.word_long.Goals as goal

pub slice_bounds-word_of-end : goal.slice_bounds-word_of-end
slice_bounds-word_of-end c = let k = plain-inside c.in-Some.ensures in omega arith

pub returns-in-None : goal.returns-in-None
returns-in-None c = no c.in-None.ensures refl

pub returns-in-Some : goal.returns-in-Some
returns-in-Some c =
    let p = c.in-Some.ensures in
    of p.stands (c.word_of.ensures ∙ sym (ap word_of (octets-part p)))
