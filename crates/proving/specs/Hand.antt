-- The clauses at hand by the room's words, and the frame that one of them is taken apart in (document 01, "When a strip fits": clause k is at hand).
use Rattle.std.specs.Prelude.{ℕ, ◌+◌, ◌-◌, ◌<◌, ◌≡◌, List, ltb, get_or, Option, Some, None}
use Rattle.basics.specs.Choice.{choose}
use Rattle.hand.specs.Hand.{clause_in, reframed}
use Rattle.room.specs.Layout.{rules_word, rule_word}
use Rattle.room.specs.Frame.{copied}
use Rattle.room.specs.Spot.{supposed_in}
use Rattle.room.specs.Where.{plus}
use Rattle.room.specs.declared.Source.TheVariants as S
use Rattle.room.specs.declared.Spot.{Spot}

-- clause k, its bindings copied on top of the stack
abbrev pub Opened : List ℕ → List ℕ → ℕ → ℕ → ℕ → Option Spot → Type 0
Opened room after k m top None = (clause_in room k m ≡ None) × (after ≡ room)
Opened room after k m top (Some y) = (x : Spot) × (clause_in room k m ≡ Some x) × (after ≡ copied room x.base x.count top) × (y ≡ reframed x top)

-- the spot of a part, n bytes further on, with one variable more
abbrev pub deeper : Spot → ℕ → Spot
deeper x n = record { source = x.source; at = plus x.at n; base = x.base; count = plus x.count 1 }

-- one more than the number of a clause that is a rule
abbrev pub RuleNumber : List ℕ → ℕ → ℕ → Type 0
RuleNumber room k r = 0 < r → (k < get_or room rules_word 0) × (r ≡ k + 1)
