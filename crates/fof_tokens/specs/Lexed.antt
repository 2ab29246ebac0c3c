-- What comes next in a text: no more tokens; something that is no token, no space and no comment; or a token, from one byte to before another.
use Rattle.std.specs.Prelude.{ℕ, Option, Some, None, Result, Ok, Err}
use Rattle.fof_tokens.specs.declared.Kind.{Kind}
use Rattle.fof_tokens.specs.declared.NoToken.{NoToken}
use Rattle.fof_tokens.specs.declared.Token.{Token}

abbrev pub Lexed : Type 0
Lexed = Result (Option Token) NoToken

abbrev pub ended : Lexed
ended = Ok None

abbrev pub bad : Lexed
bad = Err (record {})

abbrev pub token : Kind → ℕ → ℕ → Lexed
token k start end = Ok (Some (record { kind = k; start = start; end = end }))
