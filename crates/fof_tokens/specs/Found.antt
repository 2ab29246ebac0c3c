-- What the code finds at an offset, in the words of Machine and Next.
use Rattle.std.specs.Prelude.{ℕ, Some, None}
use Rattle.std.specs.Prelude as std
use Rattle.std.proofs.Math.Option.{Option, none, some}
use Rattle.fof_tokens.specs.declared.found.Found.{Found}
use Rattle.fof_tokens.specs.declared.found.Found.TheVariants as found
use Rattle.fof_tokens.specs.Machine.{Sort, gap, token}

abbrev pub found_of : std.Option Found → Option (Sort × ℕ)
found_of None = none
found_of (Some (found.Gap e)) = some (gap, e)
found_of (Some (found.Token k e)) = some (token k, e)

abbrev pub end_of : std.Option ℕ → Option ℕ
end_of (Some e) = some e
end_of None = none

-- a piece of this sort that ends there; else the last end met before
abbrev pub ending : std.Option ℕ → Sort → Option (Sort × ℕ) → Option (Sort × ℕ)
ending (Some e) s last = some (s, e)
ending None s last = last
