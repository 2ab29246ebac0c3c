use Rattle.fof_grammar.proofs.Tables.{row-filled, row-width}
use Rattle.fof_grammar.proofs.table.width.Goals as goal

pub overflow_sub-wide : goal.overflow_sub-wide
overflow_sub-wide c = row-filled c.wide.result c.args.k c.wide.ensures c.requires

pub returns : goal.returns
returns c = row-width c.wide.result c.args.k c.wide-2.result c.wide.ensures c.requires c.wide-2.ensures
