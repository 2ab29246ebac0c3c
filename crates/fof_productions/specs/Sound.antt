-- Which texts are `fof` lines (document 02, request One: "12 where TPTP's published grammar for `fof` lines doesn't allow the text"): those that can be cut into tokens that the grammar derives from `file`.
-- Anything else is refusal 12. `sound` computes it; that it says the same is proofs/Soundly. `Sound` and `sound` do not look at a text's length, which is refusal 1; `sound_book`, what the code answers, does.
use Rattle.std.specs.Prelude.{ℕ, Bool, false, ◌&&◌, List, [], ◌∷◌, map, leb, length}
use Rattle.std.proofs.Math.Option.{Option, none, some}
use Rattle.fof_tokens.specs.Token.{Token}
use Rattle.fof_tokens.specs.Cuts.{Cuts}
use Rattle.fof_tokens.specs.Next.{tokens}
use Rattle.grammar.specs.Derives.{any, Derives}
use Rattle.grammar.specs.Machine.{accepts}
use Rattle.fof_productions.specs.Terminal.{Terminal, terminal}
use Rattle.fof_productions.specs.Name.{file}
use Rattle.fof_productions.specs.Grammar.{productions}
use Rattle.fof_productions.specs.Decided.{decided}

abbrev pub terminal_of : Token → Terminal
terminal_of t = terminal t.kind t.bytes

pub record Sound (text : List ℕ) : Type 0 where
  pub cut : List Token
  pub cuts : Cuts text cut
  pub derived : Derives productions (any file ∷ []) (map terminal_of cut)

abbrev pub sound_tokens : Option (List Token) → Bool
sound_tokens none = false
sound_tokens (some ts) = accepts decided file (map terminal_of ts)

unfoldable pub sound : List ℕ → Bool
sound text = sound_tokens (tokens text)

-- and short enough: a text of more than 16,384 bytes is refused before, with 1
unfoldable pub sound_book : List ℕ → Bool
sound_book text = leb (length text) 16384 && sound text
