-- The byte offset of the strip node at a position (document 01, refusal 7: the offset of its opening parenthesis), counted from the strip's own opening parenthesis.
use Rattle.std.specs.Prelude.{ℕ, zero, suc, ◌+◌, List, [], ◌∷◌, length}
use Prim.Native.String.{String}
use Rattle.basics.specs.Text.{octets}
use Rattle.harrop.specs.Formula.{Strip}
use Rattle.harrop.specs.Check.{Position}
use Rattle.sexp.specs.Sexp.{Sexp, spell}
use Rattle.packet.specs.Written.{number, path_sexp, strip_sexp}

-- how many octets an expression takes, and a quoted text
abbrev pub width : Sexp → ℕ
width x = length (spell x)

abbrev pub wide : String → ℕ
wide w = length (octets w)

-- the node itself, or what f says of the part with this number and the position in it
abbrev pub within : Position → (ℕ → Position → ℕ) → ℕ
within [] f = 0
within (i ∷ at) f = f i at

-- the first part or the second
abbrev pub first_or : ℕ → ℕ → ℕ → ℕ
first_or zero a b = a
first_or (suc i) a b = b

abbrev pub offset_of : Strip → Position → ℕ
offset_of Strip.top at = 0
offset_of (Strip.and P R) at =
    within at λ i rest. wide "(3:and" + first_or i (offset_of P rest) (width (strip_sexp P) + offset_of R rest)
offset_of (Strip.left P) at = within at λ i rest. wide "(4:left" + offset_of P rest
offset_of (Strip.right P) at = within at λ i rest. wide "(5:right" + offset_of P rest
offset_of (Strip.some n P) at = within at λ i rest. wide "(4:some" + width (number n) + offset_of P rest
offset_of (Strip.all P) at = within at λ i rest. wide "(3:all" + offset_of P rest
offset_of (Strip.imp P) at = within at λ i rest. wide "(3:imp" + offset_of P rest
offset_of (Strip.use₀ k path) at = 0
offset_of (Strip.use₁ k path P) at = within at λ i rest. wide "(3:use" + width (number k) + width (path_sexp path) + offset_of P rest
