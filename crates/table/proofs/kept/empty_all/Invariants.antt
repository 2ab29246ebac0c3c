use lib.ListN.{length}
use Rattle.table.specs.Slots.{table_word}
use Rattle.table.proofs.SlotLaws.{inside-bounds, inside-not}
use Rattle.table.proofs.ForgetLaws.{Bare, cleared-first, cleared-next, cleared-only, bare-all}
use Prim.Native.Nat.{ℕ, ◌+◌, ◌-◌, ◌%◌, ◌≤◌}
use mathlib.Core.List.{List}
use mathlib.Core.Path.{◌≡◌, refl, sym, subst}
use native.Mathlib.Omega.{arith}
use borrow.Author.Rules.{rules}
use Rattle.table.proofs.kept.empty_all.Given as goal

abbrev pub invariant-loop-room : goal.invariant-loop-room
invariant-loop-room l = (table_word ≤ l.at) × ((l.at % 16 ≡ 0) × Bare l.initial.room l.room l.at)

abbrev pub decreases-loop-room : goal.decreases-loop-room
decreases-loop-room l = length l.initial.room - l.at
