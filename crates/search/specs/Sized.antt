-- The size that the program `search` is given for its buffer: at most 16,384 bytes, as many as a strip may have (document 01, "Sizes"), or none that it takes.
use Rattle.std.specs.Prelude.{ℕ, ◌≤◌, Option, Some, None}

abbrev pub Sized : Option ℕ → Type 0
Sized (Some n) = n ≤ 16384
Sized None = Unit {0}
