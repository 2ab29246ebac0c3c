-- 8,192 words are always enough, for a checker (a strip nests at most 64 levels) and for a search (a height of at most 32): from specs/Layout alone.
-- A node pushes at most 64 words: a frame holds at most 63 (proofs/NestLaws), `use` copies one and adds to it, `some` and `all` add one word.
use Prim.Native.Nat.{ℕ, ◌+◌, ◌-◌, ◌≤◌, ◌<◌}
use native.Mathlib.Omega.{arith}
use Rattle.room.specs.Layout.{words, levels, supposed_word, supposed_at_most, stack, rules_at_most, candidates_at_most, rule_word, candidates_word, candidate_word, highest_word, Enough}

-- at the start, with so many levels to come
pub enough-at-start : (nest : ℕ) → nest ≤ levels → Enough stack 0 0 nest
enough-at-start nest h = record { bindings = omega arith; supposed = omega arith; opened = omega arith }

-- the tables, the supposed clauses and the stack do not meet
pub rules-end : (k : ℕ) → k < rules_at_most → rule_word k < candidates_word
rules-end k h = omega arith

pub candidates-end : (i : ℕ) → i < candidates_at_most → (candidate_word i < highest_word 0) × (highest_word i < supposed_word 0)
candidates-end i h = (omega arith, omega arith)

pub supposed-end : (m : ℕ) → m < supposed_at_most → supposed_word m + 5 ≤ stack
supposed-end m h = omega arith

module _ {top m p nest : ℕ} (e : Enough top m p nest) where
  -- where a level is to come, there is room for 64 words, and what is pushed leaves enough for the levels above
  pub push-inside : 0 < nest → (n : ℕ) → n ≤ levels → top + n ≤ words
  push-inside h n l = omega (arith, e.bindings)

  pub enough-pushed : 0 < nest → (n : ℕ) → n ≤ levels → Enough (top + n) m p (nest - 1)
  enough-pushed h n l = record { bindings = omega (arith, e.bindings); supposed = omega (arith, e.supposed); opened = omega (arith, e.opened) }

  pub enough-passed : 0 < nest → Enough top m p (nest - 1)
  enough-passed h = record { bindings = omega (arith, e.bindings); supposed = omega (arith, e.supposed); opened = omega (arith, e.opened) }

  -- a node that supposes a clause has a part, so another level is to come: there is room for the clause
  pub suppose-inside : 1 < nest → m < supposed_at_most
  suppose-inside h = omega (arith, e.supposed)

  pub enough-supposed : 0 < nest → Enough top (m + 1) p (nest - 1)
  enough-supposed h = record { bindings = omega (arith, e.bindings); supposed = omega (arith, e.supposed); opened = omega (arith, e.opened) }

  -- a node that opens a parameter pushes its binding; the parameter's number is at most 64
  pub open-inside : 0 < nest → p + 1 ≤ levels
  open-inside h = omega (arith, e.opened)

  pub enough-opened : 0 < nest → Enough (top + 1) m (p + 1) (nest - 1)
  enough-opened h = record { bindings = omega (arith, e.bindings); supposed = omega (arith, e.supposed); opened = omega (arith, e.opened) }
