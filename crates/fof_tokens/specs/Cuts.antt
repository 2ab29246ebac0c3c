-- How a TPTP text is cut into tokens (document 02, request One: "comments count as spaces"): from the left, each time the longest piece that stands there. A piece is a
-- space, a comment or a token; spaces and comments are dropped. A text that cannot be cut to its end has no tokens; where it fails is not said.
use Rattle.std.specs.Prelude.{ℕ, ◌+◌, ◌<◌, ◌≤◌, List, [], ◌∷◌, ◌⊎◌, length, take, drop}
use Rattle.basics.specs.Text.{octets}
use Rattle.fof_tokens.specs.declared.Kind.{Kind}
use Rattle.fof_tokens.specs.Bytes.{is_space, in_line, any_byte}
use Rattle.fof_tokens.specs.Rule.{Rule, byte, ◌▸◌, many, just, text, ◌by◌}
use Rattle.fof_tokens.specs.Token.{IsToken, Token}

abbrev pub space : Rule
space = byte is_space

-- a comment to the end of its line; the line feed is not part of it
abbrev pub line_comment : Rule
line_comment = just 37 ▸ many (byte in_line)

-- any text between the two signs; see Block
abbrev pub block : Rule
block = text (octets "/*") ▸ many (byte any_byte) ▸ text (octets "*/")

-- a block comment ends where it first can
pub record Block (w : List ℕ) : Type 0 where
  pub whole : w by block
  pub shortest : (n : ℕ) → n < length w → take n w by block → ⊥

-- a space or a comment
abbrev pub Gap : List ℕ → Type 0
Gap w = (w by space) ⊎ (w by line_comment) ⊎ Block w

abbrev pub Piece : List ℕ → Type 0
Piece w = Gap w ⊎ ((k : Kind) × IsToken k w)

-- the longest piece at the head of the text has n bytes
pub record Longest (t : List ℕ) (n : ℕ) : Type 0 where
  pub within : n ≤ length t
  pub piece : Piece (take n t)
  pub longest : (m : ℕ) → m ≤ length t → Piece (take m t) → m ≤ n

-- the text, whose first byte has this offset, is cut into these tokens
pub data CutsFrom : ℕ → List ℕ → List Token → Type 0 where
  ends : {at : ℕ} → CutsFrom at [] []
  drops : {at n : ℕ} {t : List ℕ} {ts : List Token} →
      Longest t n → Gap (take n t) → CutsFrom (at + n) (drop n t) ts → CutsFrom at t ts
  takes : {at n : ℕ} {t : List ℕ} {ts : List Token} {k : Kind} →
      Longest t n → IsToken k (take n t) → CutsFrom (at + n) (drop n t) ts →
      CutsFrom at t (record { kind = k; at = at; bytes = take n t } ∷ ts)

-- the text is cut into these tokens
abbrev pub Cuts : List ℕ → List Token → Type 0
Cuts t ts = CutsFrom 0 t ts
