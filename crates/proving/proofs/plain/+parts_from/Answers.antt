-- `parts_from` of src/plain.rt meets its contract. Assumes nothing.
use borrow.Enum.Refused.{opened}
use Rattle.proving.proofs.PartsLaws.{parts-no-nest, parts-other, parts-atom, parts-lost, parts-imp, parts_all}
use mathlib.Core.Path.{refl, sym, subst}
use Rattle.proving.specs.Parts.{PartsFrom}
use Rattle.proving.proofs.plain.+parts_from.Goals as goal

pub returns-then-nest-eq0 : goal.returns-then-nest-eq0
returns-then-nest-eq0 t c = parts-no-nest c.if-nest-eq0.true

pub returns-in_err-at-in-Imp : goal.returns-in_err-at-in-Imp
returns-in_err-at-in-Imp t c = let x = c.args in
    subst (PartsFrom x.files.now x.x x.known x.at x.own x.nest) (sym c.from_residual.ensures) (parts-lost c.word_there.result c.word_there.ensures c.in-Imp.is c.head_behind.ensures c.in_err-at-in-Imp.was)

pub returns-in-Atom : goal.returns-in-Atom
returns-in-Atom t c = parts-atom c.word_there.result c.word_there.ensures c.in-Atom.is

pub returns-in_ok-at-in-Imp : goal.returns-in_ok-at-in-Imp
returns-in_ok-at-in-Imp t c = parts-imp c.word_there.result c.word_there.ensures c.in-Imp.is c.head_behind.ensures c.in_ok-at-in-Imp.was c.further.ensures c.moved.ensures

pub returns-in-All : goal.returns-in-All
returns-in-All t c = parts_all c.word_there.result c.if-nest-eq0.false c.word_there.ensures c.in-All.is c.deeper.ensures c.plus.ensures c.parts_from.ensures

pub returns-in_default : goal.returns-in_default
returns-in_default t c = parts-other c.word_there.result c.word_there.ensures (opened c.in_default.in_default-own.keys4)
