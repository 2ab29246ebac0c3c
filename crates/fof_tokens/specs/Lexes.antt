-- The next token of a text (document 02, request One), as Cuts cuts it: the spaces and comments before it are dropped; there may be no more, or what stands there is no piece at all.
use Rattle.std.specs.Prelude.{ℕ, ◌+◌, ◌≤◌, List, [], ◌∷◌, length, take, drop}
use Rattle.fof_tokens.specs.declared.Kind.{Kind}
use Rattle.fof_tokens.specs.Lexed.{Lexed}
use Rattle.fof_tokens.specs.Lexed as lexed
use Rattle.fof_tokens.specs.Token.{IsToken}
use Rattle.fof_tokens.specs.Cuts.{Gap, Piece, Longest}

-- this is next in the text, whose first byte has this offset
pub data Lexes : ℕ → List ℕ → Lexed → Type 0 where
  ends : {at : ℕ} → Lexes at [] lexed.ended
  fails : {at c : ℕ} {w : List ℕ} →
      ((n : ℕ) → n ≤ length (c ∷ w) → Piece (take n (c ∷ w)) → ⊥) → Lexes at (c ∷ w) lexed.bad
  drops : {at n : ℕ} {t : List ℕ} {r : Lexed} →
      Longest t n → Gap (take n t) → Lexes (at + n) (drop n t) r → Lexes at t r
  takes : {at n : ℕ} {t : List ℕ} {k : Kind} →
      Longest t n → IsToken k (take n t) → Lexes at t (lexed.token k at (at + n))
