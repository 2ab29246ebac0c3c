-- Quoted text as octets, so that a definition shows document 01's words as the document prints them.
use Rattle.std.specs.Prelude.{ℕ, zero, suc, List, [], ◌∷◌}
use Prim.Native.Char.{Char, code}
use Prim.Native.String.{String, len, char_at}

abbrev octets_from : ℕ → ℕ → String → List ℕ
octets_from zero i s = []
octets_from (suc n) i s = code (char_at s i) ∷ octets_from n (suc i) s

-- the octets of a quoted ASCII text
abbrev pub octets : String → List ℕ
octets s = octets_from (len s) 0 s
