use mathlib.Core.Bool.{true, false}
use Rattle.basics.specs.Text.{octets}
use Rattle.fof_grammar.proofs.ReadLaws.{said, by-lower}
use Rattle.fof_grammar.proofs.read.lower_word.Goals as goal

pub returns-then-same : goal.returns-then-same
returns-then-same c = by-lower c.args.w.now true (said c.args.w.now (octets "fof") c.same.result true c.same.ensures c.if-same.true)

pub returns-else-same : goal.returns-else-same
returns-else-same c = by-lower c.args.w.now false (said c.args.w.now (octets "fof") c.same.result false c.same.ensures c.if-same.false)
