use borrow.Author.Rules.{Fits-under}
use mir.Syntax.{w8}
use Rattle.fof_grammar.proofs.Tables.{far-ahead, chooses_none, chosen-few, chooses-some}
use Rattle.fof_grammar.proofs.table.choice.Goals as goal

pub returns-then-ahead-gt37 : goal.returns-then-ahead-gt37
returns-then-ahead-gt37 c = let (d, o) = far-ahead c.args.name c.args.ahead c.if-ahead-gt37.true in record { decides = d; one = o }

pub returns-then-c-lt48 : goal.returns-then-c-lt48
returns-then-c-lt48 c = let (d, o) = chooses_none c.args.name c.args.ahead c.wide-n.result c.wide.result c.wide-n.ensures c.wide.ensures c.requires c.if-ahead-gt37.false c.if-c-lt48.true in record { decides = d; one = o }

pub overflow_add-result : goal.overflow_add-result
overflow_add-result c = Fits-under w8 _ 120 (chosen-few c.args.name c.args.ahead c.wide-n.result c.wide.result c.wide-n.ensures c.wide.ensures c.requires c.if-ahead-gt37.false c.if-c-lt48.false) tt

pub returns : goal.returns
returns c = let (d, o) = chooses-some c.args.name c.args.ahead c.wide-n.result c.wide.result c.wide-n.ensures c.wide.ensures c.requires c.if-ahead-gt37.false c.if-c-lt48.false in record { decides = d; one = o }
