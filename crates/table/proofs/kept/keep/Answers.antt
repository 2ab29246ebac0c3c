-- `keep` of src/kept.rt meets its contract. Assumes nothing.
use borrow.Author.Tests.{not-false}
use mathlib.Core.List.{List}
use mathlib.Core.Path.{refl, subst}
use Prim.Native.Nat.{ℕ}
use lib.ListN.{length}
use Rattle.table.specs.Slots.{Notes}
use Rattle.table.specs.Recall.{Keeps}
use Rattle.table.proofs.SlotLaws.{inside-bounds}
use Rattle.table.proofs.EntryLaws.{only_none, keeps-only}
use native.Mathlib.Omega.{arith}
use borrow.Author.Rules.{rules}
use Rattle.table.proofs.kept.keep.Goals as goal

pub returns-then-not-inside : goal.returns-then-not-inside
returns-then-not-inside c = record { only = only_none c.args.room.now; kept = Keeps.nothing refl }

pub returns-then-not-fits : goal.returns-then-not-fits
returns-then-not-fits c = record { only = only_none c.args.room.now; kept = Keeps.nothing refl }

pub returns-then-is_this : goal.returns-then-is_this
returns-then-is_this c = let x = c.args in
    let b = inside-bounds c.inside.result (length x.room.now) x.at c.inside.ensures (not-false _ c.if-not-inside.false-raw) in
    let k = Keeps.again (c.is_this.ensures c.if-is_this.true) (c.fits.ensures (not-false _ c.if-not-fits.false-raw)) (c.note.ensures b.1) in
    record { only = keeps-only b.0 k; kept = k }

pub returns : goal.returns
returns c = let x = c.args in
    let b = inside-bounds c.inside.result (length x.room.now) x.at c.inside.ensures (not-false _ c.if-not-inside.false-raw) in
    let n = c.note-2.ensures (omega (arith, b.1, c.enter.auto.room)) in
    let k = Keeps.new b.0 b.1 (c.fits.ensures (not-false _ c.if-not-fits.false-raw)) (subst (λ (r : List ℕ). Notes r c.note-2.new.room x.at x.height x.found x.choice x.w.top) (c.enter.ensures b.1) n) in
    record { only = keeps-only b.0 k; kept = k }
