-- The variables that are bound, by the offsets at which they stand in the text, the nearest last; and the number of a variable (document 02, One: variable names go).
use Rattle.std.specs.Prelude.{ℕ, suc, ◌≡◌, List, [], ◌∷◌, get_or}
use Rattle.std.proofs.Math.Option.{Option, none, some}
use Rattle.fof_truth.specs.Numbered.{Scope}
use Rattle.fof_part.specs.Sign.{Sign}
use Rattle.std.specs.Prelude.{Some, None}
use Rattle.std.specs.Prelude as std
use Rattle.fof_pass.specs.Ahead.{signs_at}

-- the first n offsets are those of these variables
abbrev pub Scoped : List ℕ → List ℕ → ℕ → Scope → Type 0
Scoped t ns n [] = n ≡ 0
Scoped t ns n (x ∷ sc) = (m : ℕ) × (n ≡ suc m) × (ss : List Sign) × (signs_at t (get_or ns m 0) ≡ some (Sign.upper x ∷ ss)) × Scoped t ns m sc

abbrev pub number_is : std.Option ℕ → Option ℕ
number_is None = none
number_is (Some i) = some i
