-- Bytes laid into a buffer from a place on, each as far as the buffer has room for it (document 01, "What comes back"; document 02, One: what is written fills the front of the buffer and the rest keeps its bytes).
-- A place is counted no further than a machine word goes; no buffer has a byte there. Laid from place 0, bytes that have room stand in front of what is left, and a buffer with no room stays as it is; the part of a buffer from a place on can be lent for what is laid there: proofs/LaidLaws.
use Rattle.std.specs.Prelude.{ℕ, suc, ◌+◌, min, ◌≡◌, List, [], ◌∷◌, length, set}

-- the largest machine word
abbrev pub largest : ℕ
largest = 18446744073709551615

-- a place, counted no further than that
abbrev pub counted : ℕ → ℕ
counted n = min n largest

unfoldable pub laid : ℕ → List ℕ → List ℕ → List ℕ
laid at [] d = d
laid at (x ∷ w) d = laid (suc at) w (set d (counted at) x)

-- bytes put at a place, and the place after them
pub record Puts (at : ℕ) (w d d' : List ℕ) (next : ℕ) : Type 0 where
  pub bytes : d' ≡ laid at w d
  pub ahead : next ≡ counted (at + length w)
