-- `head_at` of src/rule.rt meets its contract: the nesting that is left falls. Assumes nothing.
use borrow.Enum.Refused.{opened}
use mathlib.Core.Path.{refl, sym, subst}
use Rattle.packet.specs.declared.Kind.TheVariants as K
use Rattle.packet.specs.Table.{rows, rank}
use Rattle.rows.proofs.TableLaws.{no_row}
use Rattle.narrow.specs.Heads.{HeadAt}
use Rattle.narrow.proofs.HeadLaws.{head_never, head-lost, head-atom, head-behind, head-and, head-inside, head-other}
use Rattle.narrow.proofs.rule.+head_at.Goals as goal

pub returns-then-nest-eq0 : goal.returns-then-nest-eq0
returns-then-nest-eq0 t c = let x = c.args in head_never x.s.now x.at x.nest c.if-nest-eq0.true

pub returns-in_err-n-in-Imp : goal.returns-in_err-n-in-Imp
returns-in_err-n-in-Imp t c = let x = c.args in
    subst (HeadAt x.s.now x.at x.nest) (sym c.from_residual.ensures)
    (head-lost x.s.now x.at x.nest c.from-t.ensures c.word_at.ensures c.in-Imp.is c.past.result c.past.ensures c.in_err-n-in-Imp.was)

pub returns-in-Atom : goal.returns-in-Atom
returns-in-Atom t c = let x = c.args in head-atom x.s.now x.at x.nest c.from-t.ensures c.word_at.ensures c.in-Atom.is

pub returns-in_ok-n-in-Imp : goal.returns-in_ok-n-in-Imp
returns-in_ok-n-in-Imp t c = let x = c.args in
    head-behind x.s.now x.at x.nest c.from-t.ensures c.word_at.ensures c.in-Imp.is c.past.result c.past.ensures c.in_ok-n-in-Imp.was c.plus.ensures

pub returns-in-And : goal.returns-in-And
returns-in-And t c = let x = c.args in head-and x.s.now x.at x.nest c.from-t.ensures c.word_at.ensures c.in-And.is

pub returns-in-All : goal.returns-in-All
returns-in-All t c = let x = c.args in
    head-inside x.s.now x.at x.nest c.from-t.ensures c.word_at.ensures c.head_at.result c.in-All.is c.if-nest-eq0.false c.plus-in-All.ensures c.head_at.ensures

pub returns-in_default : goal.returns-in_default
unfolding rows rank
returns-in_default t c = let x = c.args in
    head-other x.s.now x.at x.nest c.from-t.ensures c.word_at.ensures (no_row K.Clause c.word_at.result (opened c.in_default.in_default-own.keys5) refl)
