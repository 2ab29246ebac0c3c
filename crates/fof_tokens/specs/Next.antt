-- The tokens of a text, computed: the piece that stands at an offset, the next token from an offset on, and all tokens. That these are those of Lexes and Cuts is proved in NextLaws and CutsLaws.
use Rattle.std.specs.Prelude.{ℕ, zero, suc, ◌+◌, ◌-◌, List, [], ◌∷◌, map, take, drop, Some, None, Ok, Err}
use Rattle.std.proofs.Math.Option.{Option, none, some}
use Rattle.basics.specs.Choice.{◌>>=◌, or_else}
use Rattle.fof_tokens.specs.declared.Kind.{Kind}
use Rattle.fof_tokens.specs.declared.Kind.TheVariants.{Lower, Upper, Quoted, Distinct, Dollar, DoubleDollar, Integer, Rational, Real}
use Rattle.fof_tokens.specs.declared.Kind.TheVariants.{OpenParen, CloseParen, OpenBracket, CloseBracket, OpenBrace, CloseBrace, Comma, Dot, Colon, Minus}
use Rattle.fof_tokens.specs.declared.Kind.TheVariants.{ForAll, Exists, Not, And, Or, Equal, Unequal, Implies, ImpliedBy, Iff, Xor, Nor, Nand, Sequent}
use Rattle.fof_tokens.specs.Lexed.{Lexed}
use Rattle.fof_tokens.specs.Lexed as lexed
use Rattle.fof_tokens.specs.Token.{rule, Token}
use Rattle.fof_tokens.specs.Cuts.{space, line_comment, block}
use Rattle.fof_tokens.specs.Machine.{Sort, gap, token, Row, scan, soonest}

abbrev pub kinds : List Kind
kinds =
    Lower ∷ Upper ∷ Quoted ∷ Distinct ∷ Dollar ∷ DoubleDollar ∷ Integer ∷ Rational ∷ Real
    ∷ OpenParen ∷ CloseParen ∷ OpenBracket ∷ CloseBracket ∷ OpenBrace ∷ CloseBrace ∷ Comma ∷ Dot ∷ Colon ∷ Minus
    ∷ ForAll ∷ Exists ∷ Not ∷ And ∷ Or ∷ Equal ∷ Unequal ∷ Implies ∷ ImpliedBy ∷ Iff ∷ Xor ∷ Nor ∷ Nand ∷ Sequent ∷ []

-- every piece but the block comment, which ends where it first can
abbrev pub table : List Row
table = (gap, space) ∷ (gap, line_comment) ∷ map (λ k. (token k, rule k)) kinds

abbrev pub block_at : ℕ → List ℕ → Option (Sort × ℕ)
block_at at t = soonest block at t >>= λ e. some (gap, e)

-- the longest piece at the head of the text, whose first byte has this offset, and where the piece ends
unfoldable pub piece_at : ℕ → List ℕ → Option (Sort × ℕ)
piece_at at t = or_else (block_at at t) (scan table at none t)

-- what is next, where such a piece ends at e; `rest` has what is next after so many bytes of the tail
abbrev pub next_sort : Sort → ℕ → ℕ → (ℕ → Lexed) → Lexed
next_sort gap e at rest = rest (e - (at + 1))
next_sort (token k) e at rest = lexed.token k at e

abbrev pub next_piece : Option (Sort × ℕ) → ℕ → (ℕ → Lexed) → Lexed
next_piece none at rest = lexed.bad
next_piece (some p) at rest = next_sort p.0 p.1 at rest

-- what is next in the text, whose first byte has this offset; `owed` bytes of a piece are passed first
unfoldable pub next_from : ℕ → ℕ → List ℕ → Lexed
next_from owed at [] = lexed.ended
next_from (suc owed) at (c ∷ w) = next_from owed (at + 1) w
next_from zero at (c ∷ w) = next_piece (piece_at at (c ∷ w)) at (λ owed. next_from owed (at + 1) w)

-- what is next in a text from an offset on; behind its end nothing is
unfoldable pub lexed_at : List ℕ → ℕ → Lexed
lexed_at t at = next_from 0 at (drop at t)

-- what a piece that ends at e adds to the tokens after it
abbrev pub adds : Sort → ℕ → ℕ → List ℕ → Option (List Token) → Option (List Token)
adds gap e at t rest = rest
adds (token k) e at t rest = rest >>= λ ts. some (record { kind = k; at = at; bytes = take (e - at) t } ∷ ts)

-- the tokens where such a piece stands, or none; `rest` has those after so many bytes of the tail
abbrev pub with_piece : Option (Sort × ℕ) → ℕ → List ℕ → (ℕ → Option (List Token)) → Option (List Token)
with_piece none at t rest = none
with_piece (some p) at t rest = adds p.0 p.1 at t (rest (p.1 - (at + 1)))

-- the tokens of the text, whose first byte has this offset; `owed` bytes of a piece are passed first
unfoldable pub tokens_from : ℕ → ℕ → List ℕ → Option (List Token)
tokens_from owed at [] = some []
tokens_from (suc owed) at (c ∷ w) = tokens_from owed (at + 1) w
tokens_from zero at (c ∷ w) = with_piece (piece_at at (c ∷ w)) at (c ∷ w) (λ owed. tokens_from owed (at + 1) w)

-- the tokens of a text from an offset on
unfoldable pub tokens_at : List ℕ → ℕ → Option (List Token)
tokens_at t at = tokens_from 0 at (drop at t)

-- the tokens of a text, if it can be cut
unfoldable pub tokens : List ℕ → Option (List Token)
tokens t = tokens_at t 0

-- the tokens of a text, where this is next
abbrev pub tokens_by : List ℕ → Lexed → Option (List Token)
tokens_by t (Ok None) = some []
tokens_by t (Err e) = none
tokens_by t (Ok (Some k)) =
    tokens_at t k.end >>= λ ts. some (record { kind = k.kind; at = k.start; bytes = take (k.end - k.start) (drop k.start t) } ∷ ts)
