-- A sign that is expected is taken: the place behind it, where fof_part's `taking` finds it; else nowhere.
use Rattle.std.specs.Prelude.{ℕ, ◌≡◌, List}
use Rattle.std.proofs.Math.Option.{Option, none, some}
use Rattle.fof_part.specs.Sign.{Sign}
use Rattle.std.specs.Prelude.{Some, None}
use Rattle.std.specs.Prelude as std
use Rattle.fof_pass.specs.Ahead.{signs_at}

abbrev pub TakesTo : List ℕ → std.Option ℕ → Option (List Sign) → Type 0
TakesTo t None o = o ≡ none
TakesTo t (Some n) o = (ss : List Sign) × (o ≡ some ss) × (signs_at t n ≡ some ss)
