-- A machine that finds the longest piece: its state is what may still come, a list of rules. What it finds is what Cuts asks for (proved in MachineLaws).
use Rattle.std.specs.Prelude.{ℕ, ◌+◌, Bool, true, false, ◌&&◌, ◌||◌, List, [], ◌∷◌}
use Rattle.std.proofs.Math.Option.{Option, none, some}
use Rattle.basics.specs.Choice.{choose}
use Rattle.fof_tokens.specs.declared.Kind.{Kind}
use Rattle.fof_tokens.specs.Rule.{Rule, never, empty, byte, ◌▸◌, ◌∣◌, many}

-- the rule allows the empty string
abbrev pub may_end : Rule → Bool
may_end never = false
may_end empty = true
may_end (byte t) = false
may_end (r ▸ s) = may_end r && may_end s
may_end (r ∣ s) = may_end r || may_end s
may_end (many r) = true

-- one rule after the other, written short
abbrev pub onto : Rule → Rule → Rule
onto never s = never
onto empty s = s
onto (byte t) s = byte t ▸ s
onto (r ▸ r') s = r ▸ onto r' s
onto (r ∣ r') s = (r ∣ r') ▸ s
onto (many r) s = many r ▸ s

abbrev pub or_last : Rule → Rule → Rule
or_last r never = r
or_last r empty = r ∣ empty
or_last r (byte t) = r ∣ byte t
or_last r (s ▸ s') = r ∣ (s ▸ s')
or_last r (s ∣ s') = r ∣ (s ∣ s')
or_last r (many s) = r ∣ many s

-- one rule or the other, written short
abbrev pub either : Rule → Rule → Rule
either never s = s
either empty s = or_last empty s
either (byte t) s = or_last (byte t) s
either (r ▸ r') s = or_last (r ▸ r') s
either (r ∣ r') s = or_last (r ∣ r') s
either (many r) s = or_last (many r) s

-- what may come after the byte c
abbrev pub after : ℕ → Rule → Rule
after c never = never
after c empty = never
after c (byte t) = choose (t c) empty never
after c (r ▸ s) = either (onto (after c r) s) (choose (may_end r) (after c s) never)
after c (r ∣ s) = either (after c r) (after c s)
after c (many r) = onto (after c r) (many r)

-- what a piece is: to be dropped, or a token
pub data Sort : Type 0 where
  gap : Sort
  token : Kind → Sort

-- what may still come, and what it would make the piece
abbrev pub Row : Type 0
Row = Sort × Rule

-- one row more, unless nothing can come of it
abbrev pub keep : Sort → Rule → List Row → List Row
keep s never q = q
keep s empty q = (s, empty) ∷ q
keep s (byte t) q = (s, byte t) ∷ q
keep s (r ▸ r') q = (s, r ▸ r') ∷ q
keep s (r ∣ r') q = (s, r ∣ r') ∷ q
keep s (many r) q = (s, many r) ∷ q

-- the state after one byte more
abbrev pub step : ℕ → List Row → List Row
step c [] = []
step c (x ∷ q) = keep x.0 (after c x.1) (step c q)

-- what piece may end here
abbrev pub ended : List Row → Option Sort
ended [] = none
ended (x ∷ q) = choose (may_end x.1) (some x.0) (ended q)

-- the last end met
abbrev pub note : Option Sort → ℕ → Option (Sort × ℕ) → Option (Sort × ℕ)
note none at last = last
note (some s) at last = some (s, at)

-- the longest piece and where it ends, from a state at an offset, where the bytes from there on are known; `last` is the last end met before
unfoldable pub scan : List Row → ℕ → Option (Sort × ℕ) → List ℕ → Option (Sort × ℕ)
scan q at last [] = note (ended q) at last
scan q at last (c ∷ w) = scan (step c q) (at + 1) (note (ended q) at last) w

-- where what the rule allows can first end
unfoldable pub soonest : Rule → ℕ → List ℕ → Option ℕ
soonest r at [] = choose (may_end r) (some at) none
soonest r at (c ∷ w) = elim (may_end r) [ true ↦ some at | false ↦ soonest (after c r) (at + 1) w ]
