-- `see` of src/equal.rt meets its contract. Assumes nothing.
use Rattle.equal.proofs.SeeLaws.{see-written, see-none, see-variable}
use Rattle.equal.specs.Term.{binding_seen}
use Rattle.equal.specs.declared.equal.Seen.TheVariants.{Parameter}
use borrow.Author.Tests.{not-true, not-false}
use mathlib.Core.Path.{ap, ◌∙◌}
use Rattle.equal.proofs.equal.see.Goals as goal

pub returns-then-not-is_word : goal.returns-then-not-is_word
returns-then-not-is_word c = let x = c.args in
    see-written x.files.now x.room.now c.part-s.ensures.bytes c.is_word.ensures (not-true c.is_word.result c.if-not-is_word.true-raw)

pub returns-in-None : goal.returns-in-None
returns-in-None c = let x = c.args in
    see-none x.files.now x.room.now (Parameter 0) c.part-s.ensures.bytes c.is_word.ensures (not-false c.is_word.result c.if-not-is_word.false-raw) c.in-None.is c.number.ensures

pub returns-in-Some : goal.returns-in-Some
returns-in-Some c = let x = c.args in
    see-variable x.files.now x.room.now c.part-s.ensures.bytes c.is_word.ensures (not-false c.is_word.result c.if-not-is_word.false-raw) c.in-Some.is c.number.ensures
    (c.meaning.ensures ∙ ap (binding_seen x.room.now) c.variable.ensures)
