-- `open_clause` of src/uses.rt meets its contract. Assumes nothing.
use mathlib.Core.Path.{refl, sym, ◌∙◌}
use Rattle.uses.proofs.HandLaws.{open-lost, open-short, open_full}
use native.Mathlib.Omega.{arith}
use Rattle.uses.proofs.uses.open_clause.Goals as goal

pub returns-in_err-x : goal.returns-in_err-x
returns-in_err-x c = let x = c.args in
    rw c.from_residual.ensures (open-lost x.room.now x.k x.supposes x.top c.at_hand.ensures c.in_err-x.was)

pub returns-then-room-top : goal.returns-then-room-top
returns-then-room-top c = let x = c.args in
    open-short x.room.now x.k x.supposes x.top c.if-room-top.true

pub returns-then-room-top-2 : goal.returns-then-room-top-2
returns-then-room-top-2 c = let x = c.args in
    let l = c.if-room-top.false in
    let m = c.if-room-top-2.true in
    open_full x.room.now x.k x.supposes x.top c.at_hand.ensures c.in_ok-x.was (omega arith)

pub returns : goal.returns
returns c = let x = c.args in
    let l = c.if-room-top.false in
    let m = c.if-room-top-2.false in
    (c.in_ok-x.x, sym c.at_hand.ensures ∙ c.in_ok-x.was, omega arith, c.copy.ensures, refl)
