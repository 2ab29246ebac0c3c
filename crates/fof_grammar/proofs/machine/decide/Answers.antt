use lib.ListN.{drop}
use Rattle.fof_grammar.proofs.AheadLaws.{formula-decides, other-decides, nears}
use Rattle.fof_grammar.proofs.machine.decide.Goals as goal

pub returns-then-name-eq6 : goal.returns-then-name-eq6
returns-then-name-eq6 c = record { decides = λ w e. formula-decides c.args.name (drop c.args.at w) c.beyond-c.result c.choice.result c.choice.ensures.decides c.if-name-eq6.true (c.beyond-c.ensures w e); one = c.choice.ensures.one }

pub returns : goal.returns
returns c = record { decides = λ w e. other-decides c.args.name (drop c.args.at w) c.next-c.result c.choice-2.result c.choice-2.ensures.decides c.requires c.if-name-eq6.false (nears c.args.codes.now w c.args.at e c.next-c.result c.next-c.ensures); one = c.choice-2.ensures.one }
