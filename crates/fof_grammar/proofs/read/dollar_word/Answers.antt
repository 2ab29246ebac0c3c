use mathlib.Core.Path.{refl}
use mathlib.Core.Bool.{true, false}
use Rattle.basics.specs.Text.{octets}
use Rattle.fof_productions.specs.Terminal.{same_octets}
use Rattle.fof_grammar.proofs.ReadLaws.{said, by-dollar}
use Rattle.fof_grammar.proofs.read.dollar_word.Goals as goal

pub returns-then-same : goal.returns-then-same
returns-then-same c = by-dollar c.args.w.now true (same_octets c.args.w.now (octets "$cnf")) (same_octets c.args.w.now (octets "$fot")) (said c.args.w.now (octets "$fof") c.same.result true c.same.ensures c.if-same.true) refl refl

pub returns-then-same-2 : goal.returns-then-same-2
returns-then-same-2 c = by-dollar c.args.w.now false true (same_octets c.args.w.now (octets "$fot")) (said c.args.w.now (octets "$fof") c.same.result false c.same.ensures c.if-same.false) (said c.args.w.now (octets "$cnf") c.same-2.result true c.same-2.ensures c.if-same-2.true) refl

pub returns-then-same-3 : goal.returns-then-same-3
returns-then-same-3 c = by-dollar c.args.w.now false false true (said c.args.w.now (octets "$fof") c.same.result false c.same.ensures c.if-same.false) (said c.args.w.now (octets "$cnf") c.same-2.result false c.same-2.ensures c.if-same-2.false) (said c.args.w.now (octets "$fot") c.same-3.result true c.same-3.ensures c.if-same-3.true)

pub returns-else-same-3 : goal.returns-else-same-3
returns-else-same-3 c = by-dollar c.args.w.now false false false (said c.args.w.now (octets "$fof") c.same.result false c.same.ensures c.if-same.false) (said c.args.w.now (octets "$cnf") c.same-2.result false c.same-2.ensures c.if-same-2.false) (said c.args.w.now (octets "$fot") c.same-3.result false c.same-3.ensures c.if-same-3.false)
