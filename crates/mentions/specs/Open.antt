-- A frame in which some variables are not set yet (document 02, Three: the head decides before candidates are tried). An unset variable is bound to a candidate of a number that no packet has.
use Rattle.std.specs.Prelude.{ℕ, ◌≡◌, Bool, true, false, ◌&&◌, ◌||◌, List, eqb, ltb}
use Rattle.harrop.specs.declared.Binding.{Binding}
use Rattle.harrop.specs.declared.Binding.TheVariants.{Candidate, Parameter}
use Rattle.harrop.specs.Formula.{Term}
use Rattle.harrop.specs.Bindings.{Bindings, value_of}
use Rattle.room.specs.Frame.{bound_to}

-- the candidate that stands for none
abbrev pub unset : Binding
unset = Candidate 2147483647

unfoldable pub is_unset : Binding → Bool
is_unset (Candidate i) = eqb i 2147483647
is_unset (Parameter k) = false

-- whether variable i of a frame is unset; only the first `own` may be, those of the clause itself
unfoldable pub is_open : ℕ → Bindings → ℕ → Bool
is_open own bs i = ltb i own && is_unset (bound_to bs i)

-- whether it is, or is variable v if that one is asked for as well
unfoldable pub asked : ℕ → Bindings → Bool → ℕ → ℕ → Bool
asked own bs also v i = is_open own bs i || (also && eqb i v)

-- one frame is what another may become: it gives the same term to each variable that is set there
abbrev pub Becomes : List Term → ℕ → Bindings → Bindings → Type 0
Becomes us own bs ds = (i : ℕ) → is_open own bs i ≡ false → value_of us ds i ≡ value_of us bs i
