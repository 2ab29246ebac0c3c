-- `clause_key` of src/rule.rt meets its contract: the nesting that is left falls. Assumes nothing.
use borrow.Enum.Refused.{opened}
use mathlib.Core.Path.{refl}
use Rattle.packet.specs.declared.Kind.TheVariants as K
use Rattle.packet.specs.Table.{rows, rank}
use Rattle.rows.proofs.TableLaws.{no_row}
use Rattle.keys.proofs.RuleLaws.{clause-never, clause-atom, clause-imp, clause-and, clause-all, clause-other}
use Rattle.keys.proofs.rule.+clause_key.Goals as goal

pub returns-then-nest-eq0 : goal.returns-then-nest-eq0
returns-then-nest-eq0 t c = let x = c.args in clause-never x.s.now x.at x.nest c.if-nest-eq0.true

pub returns-in-Atom : goal.returns-in-Atom
returns-in-Atom t c = let x = c.args in
    clause-atom x.s.now x.at x.nest c.from-t.ensures c.word_at.ensures c.head_key.result c.in-Atom.is c.head_key.ensures

pub returns-in-Imp : goal.returns-in-Imp
returns-in-Imp t c = let x = c.args in
    clause-imp x.s.now x.at x.nest c.from-t.ensures c.word_at.ensures c.behind_imp.result c.in-Imp.is c.behind_imp.ensures

pub returns-in-And : goal.returns-in-And
returns-in-And t c = let x = c.args in
    clause-and x.s.now x.at x.nest c.from-t.ensures c.word_at.ensures c.in-And.is

pub returns-in-All : goal.returns-in-All
returns-in-All t c = let x = c.args in
    clause-all x.s.now x.at x.nest c.from-t.ensures c.word_at.ensures c.clause_key.result c.in-All.is c.if-nest-eq0.false c.clause_key.ensures

pub returns-in_default : goal.returns-in_default
unfolding rows rank
returns-in_default t c = let x = c.args in
    let k = c.word_at.result in
    clause-other x.s.now x.at x.nest c.from-t.ensures c.word_at.ensures (no_row K.Clause k (opened c.in_default.in_default-own.keys5) refl)
