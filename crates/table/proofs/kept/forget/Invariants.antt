use borrow.Author.Tests.{not-false}
use lib.ListN.{length}
use Rattle.table.specs.Slots.{table_word, Slot}
use Rattle.table.proofs.SlotLaws.{inside-bounds, inside-not}
use Rattle.table.proofs.ForgetLaws.{Forgotten, cleared-first, forgotten-next, cleared-only, forgotten-all}
use Prim.Native.Nat.{ℕ, ◌+◌, ◌-◌, ◌%◌, ◌≤◌}
use mathlib.Core.List.{List}
use mathlib.Core.Path.{◌≡◌, sym, ap, ◌∙◌, subst}
use native.Mathlib.Omega.{arith}
use borrow.Author.Rules.{rules}
use Rattle.table.proofs.kept.forget.Given as goal

abbrev pub invariant-loop-room : goal.invariant-loop-room
invariant-loop-room l = (table_word ≤ l.at) × ((l.at % 16 ≡ 0) × Forgotten l.initial.room l.room l.supposed l.at)

abbrev pub decreases-loop-room : goal.decreases-loop-room
decreases-loop-room l = length l.initial.room - l.at
