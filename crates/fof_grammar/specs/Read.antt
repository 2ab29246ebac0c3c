-- What reading a text's tokens into a list of numbers comes to: all of them are there, in order, or something in the text is no token.
use Rattle.std.specs.Prelude.{ℕ, ◌≤◌, ◌≡◌, List, map, length, take, Result, Ok, Err}
use Rattle.std.proofs.Math.Option.{none, some}
use Rattle.fof_tokens.specs.Token.{Token}
use Rattle.fof_tokens.specs.Next.{tokens}
use Rattle.fof_tokens.specs.declared.NoToken.{NoToken}
use Rattle.fof_productions.specs.Terminal.{code}
use Rattle.fof_productions.specs.Sound.{terminal_of}

abbrev pub ReadAs : List ℕ → List ℕ → Result ℕ NoToken → Type 0
ReadAs text codes (Ok n) =
    (n ≤ length text) × ((ts : List Token) × (tokens text ≡ some ts) × (take n codes ≡ map code (map terminal_of ts)))
ReadAs text codes (Err e) = tokens text ≡ none
