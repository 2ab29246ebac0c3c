-- How much of a buffer was filled: no more than it holds. (The second part follows from the first, and spares a caller's `&buf[..n]` a proof.)
use Rattle.std.specs.Prelude.{◌≡◌, ℕ, ◌≤◌, List, length, take}

abbrev pub IsPrefixLen : ℕ → List ℕ → Type 0
IsPrefixLen n xs = (n ≤ length xs) × (n ≡ length (take n xs))
