-- `empty_all` of src/kept.rt meets its contract. Assumes nothing.
use lib.ListN.{length}
use Rattle.table.specs.Slots.{table_word}
use Rattle.table.proofs.SlotLaws.{inside-bounds, inside-not}
use Rattle.table.proofs.ForgetLaws.{Bare, cleared-first, cleared-next, cleared-only, bare-all}
use Prim.Native.Nat.{ℕ, ◌+◌, ◌-◌, ◌%◌, ◌≤◌}
use mathlib.Core.List.{List}
use mathlib.Core.Path.{◌≡◌, refl, sym, subst}
use native.Mathlib.Omega.{arith}
use borrow.Author.Rules.{rules}
use Rattle.table.proofs.kept.empty_all.Goals as goal

pub loop-room-init : goal.loop-room-init
loop-room-init c = (omega arith, (omega arith, cleared-first (λ (mark : ℕ). mark ≡ 0) c.args.room.now))

pub overflow_add-at : goal.overflow_add-at
overflow_add-at c = let l = c.loop-room in let b = inside-bounds c.inside.result (length l.room) l.at c.inside.ensures c.loop-room-test.true in search rules

pub loop-room-smaller : goal.loop-room-smaller
loop-room-smaller c = let l = c.loop-room in let b = inside-bounds c.inside.result (length l.room) l.at c.inside.ensures c.loop-room-test.true in let z = l.invariant.1.1.long in search rules

pub loop-room-preserved : goal.loop-room-preserved
loop-room-preserved c = let x = c.args in let l = c.loop-room in let b = inside-bounds c.inside.result (length l.room) l.at c.inside.ensures c.loop-room-test.true in
    let t = l.invariant.1.0 in
    (omega arith, (omega arith, subst (λ (r : List ℕ). Bare x.room.now r (l.at + 16)) (sym c.put_after.ensures) (cleared-next (λ (mark : ℕ). mark ≡ 0) x.room.now l.room l.at (record { first = b.0; step = t; inside = b.1 }) refl l.invariant.1.1)))

pub shape_of-room : goal.shape_of-room
shape_of-room c = c.loop-room.invariant.1.1.long

pub returns : goal.returns
returns c = let x = c.args in let l = c.loop-room in
    let e = inside-not c.inside.result (length l.room) l.at c.inside.ensures c.loop-room-test.false l.invariant.0 in
    record { only = cleared-only (λ (mark : ℕ). mark ≡ 0) x.room.now l.room l.at l.invariant.1.1; none = bare-all x.room.now l.room l.at l.invariant.1.1 e }
