-- The head of a list, by how its kind begins.
use mathlib.Core.Path.{sym, ◌∙◌}
use Rattle.reader.proofs.ShapeLaws.{list-never, list-plainly, with-word}
use Rattle.reader.proofs.shape.list_head.Goals as goal

pub returns-in-Never : goal.returns-in-Never
returns-in-Never c = λ xs g. list-never c.args.s.now c.args.at c.args.kind xs (sym c.in-Never.is ∙ c.begins_with.ensures)

pub returns-in-Plainly : goal.returns-in-Plainly
returns-in-Plainly c = λ xs g. list-plainly c.args.s.now c.args.at c.args.kind xs (sym c.in-Plainly.is ∙ c.begins_with.ensures) g

pub returns-in-WithWord : goal.returns-in-WithWord
returns-in-WithWord c = λ xs g. c.word_head.ensures xs (with-word c.args.s.now c.args.at c.args.kind (sym c.in-WithWord.is ∙ c.begins_with.ensures)) g
