-- `between` of src/word.rt meets its contract. Assumes nothing.
use Rattle.arguments.proofs.BesideLaws.{between-open, between-short, between_first, between-rest}
use Rattle.arguments.proofs.word.+between.Goals as goal

pub returns-then-most-eq0 : goal.returns-then-most-eq0
returns-then-most-eq0 t c = between-open c.args.asked c.args.kept

pub returns-then-kept-eq0 : goal.returns-then-kept-eq0
returns-then-kept-eq0 t c = between-open c.args.asked c.args.kept

pub returns-else-kept-eq0 : goal.returns-else-kept-eq0
returns-else-kept-eq0 t c = between-short c.args.asked c.args.kept c.if-asked-eq0.true c.if-kept-eq0.false

pub returns-in-Never : goal.returns-in-Never
returns-in-Never t c = between_first c.args.asked c.args.kept c.if-asked-eq0.false c.beside-one.result c.beside-one.ensures

pub returns-in-Nothing : goal.returns-in-Nothing
returns-in-Nothing t c = between_first c.args.asked c.args.kept c.if-asked-eq0.false c.beside-one.result c.beside-one.ensures

pub returns-in_default-between : goal.returns-in_default-between
returns-in_default-between t c = between-rest c.args.asked c.args.kept c.if-asked-eq0.false c.between.result c.between.ensures
