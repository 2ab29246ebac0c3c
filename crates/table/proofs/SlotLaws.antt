-- Laws of slots: the slot of a key begins at a multiple of 16, and the tests of whether one is there.
use Prim.Native.Nat.{ℕ, ◌+◌, ◌-◌, ◌*◌, ◌/◌, ◌%◌, ◌≤◌, ◌<◌}
use mathlib.Core.Path.{◌≡◌, refl, sym, ◌∙◌, ap}
use mathlib.Core.Bool.{Bool, true, false, ◌&&◌}
use native.Mathlib.Omega.{arith}
use native.Mathlib.Nat.{mod-lt}
use lib.Dec.{eqb, leb}
use borrow.Author.Tests.{lt-ltb, le-ltb, le-leb, lt-leb, leb-true, leb-false, eq-eqb, ne_eqb, eqb-true, eqb-false}
use Rattle.basics.specs.Choice.{both_true}
use Rattle.table.specs.Slots.{table_word, slot_for}

pub slot-none : (n key : ℕ) → n < 5392 → (0 ≡ slot_for n key) × (0 % 16 ≡ 0)
unfolding slot_for
slot-none n key h = (rw (lt-ltb n 5392 h) refl, omega arith)

pub slot-some : (n key : ℕ) → 5392 ≤ n → (5376 + 16 * (key % ((n - 5376) / 16)) ≡ slot_for n key) × ((5376 + 16 * (key % ((n - 5376) / 16))) % 16 ≡ 0)
unfolding slot_for
slot-some n key h = (rw (le-ltb n 5392 h) refl, omega arith)

-- so its number fits a machine word, as the room's length does
pub slot-fits : (n key : ℕ) → 5392 ≤ n → 5376 + 16 * (key % ((n - 5376) / 16)) + 16 ≤ n
slot-fits n key h =
    let some : 0 < (n - 5376) / 16 = omega arith in
    let z : key % ((n - 5376) / 16) < (n - 5376) / 16 = mod-lt key some in
    omega arith

pub inside-bounds : (r : Bool) (n at : ℕ) → r ≡ (leb table_word at && leb (at + 16) n) → r ≡ true → (5376 ≤ at) × (at + 16 ≤ n)
inside-bounds r n at e t =
    let (a, b) = both_true (leb table_word at) (leb (at + 16) n) (sym e ∙ t) in
    (leb-true table_word at a, leb-true (at + 16) n b)

pub inside-not : (r : Bool) (n at : ℕ) → r ≡ (leb table_word at && leb (at + 16) n) → r ≡ false → 5376 ≤ at → n < at + 16
inside-not r n at e t l = leb-false (at + 16) n (rw (le-leb table_word at l) at (sym e ∙ t))
