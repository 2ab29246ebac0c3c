use borrow.Author.Rules.{Fits-under}
use mir.Syntax.{w64}
use Rattle.fof_grammar.proofs.Tables.{row_inside, row-symbol}
use Rattle.fof_grammar.proofs.table.symbol.Goals as goal

pub bounds-wide : goal.bounds-wide
bounds-wide c = row_inside c.wide.result c.args.k c.args.i c.wide.ensures c.requires.0 c.requires.1

pub overflow_add-result-2 : goal.overflow_add-result-2
overflow_add-result-2 c = Fits-under w64 _ 1320 (row_inside c.wide.result c.args.k c.args.i c.wide.ensures c.requires.0 c.requires.1) tt

pub returns : goal.returns
returns c = row-symbol c.wide.result c.args.k c.args.i c.wide.ensures c.requires.0 c.requires.1
