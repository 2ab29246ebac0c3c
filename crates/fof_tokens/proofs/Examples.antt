-- Texts and their tokens, computed: what follows from the rules of the tokens, the longest piece first, and what is no text of tokens.
use Prim.Native.Nat.{ℕ}
use mathlib.Core.Path.{◌≡◌, refl}
use mathlib.Core.List.{List, [], ◌∷◌, map}
use mathlib.Core.Option.{Option, none, some}
use Rattle.basics.specs.Text.{octets}
use Rattle.basics.specs.Choice.{◌>>=◌}
use Rattle.fof_tokens.specs.declared.Kind.{Kind}
use Rattle.fof_tokens.specs.declared.Kind.TheVariants.{Lower, Upper, Quoted, Distinct, Dollar, DoubleDollar, Integer, Rational, Real}
use Rattle.fof_tokens.specs.declared.Kind.TheVariants.{OpenParen, CloseParen, OpenBracket, CloseBracket, OpenBrace, CloseBrace, Comma, Dot, Colon, Minus}
use Rattle.fof_tokens.specs.declared.Kind.TheVariants.{ForAll, Exists, Not, And, Or, Equal, Unequal, Implies, ImpliedBy, Iff, Xor, Nor, Nand, Sequent}
use Rattle.fof_tokens.specs.Token.{Token}
use Rattle.fof_tokens.specs.Next.{tokens, tokens_at, tokens_from, piece_at}
use Rattle.fof_tokens.specs.Machine.{scan, soonest}
use Rattle.fof_tokens.specs.Bytes.{is_space, is_alnum, is_sign, is_exponent, is_plain, is_escaped, in_line}

abbrev pub said : List ℕ → Option (List (Kind × List ℕ))
said t = tokens t >>= λ ts. some (map (λ (x : Token). (x.kind, x.bytes)) ts)

-- texts, and their tokens or none
abbrev pub stated : List ((List ℕ) × Option (List (Kind × List ℕ)))
stated =
    (octets "fof(a,axiom,p).", some ((Lower, octets "fof") ∷ (OpenParen, octets "(") ∷ (Lower, octets "a") ∷ (Comma, octets ",") ∷ (Lower, octets "axiom") ∷ (Comma, octets ",") ∷ (Lower, octets "p") ∷ (CloseParen, octets ")") ∷ (Dot, octets ".") ∷ []))
    ∷ (octets "", some ([]))
    ∷ (octets "p/**/q", some ((Lower, octets "p") ∷ (Lower, octets "q") ∷ []))
    ∷ (octets "p%x", some ((Lower, octets "p") ∷ []))
    ∷ (octets "/*/", none)
    ∷ (octets "/***/ /* % ' */p", some ((Lower, octets "p") ∷ []))
    ∷ (octets "/*a*/*/", none)
    ∷ (octets "p /* q", none)
    ∷ (octets "'%/*' \"/*%\"", some ((Quoted, octets "'%/*'") ∷ (Distinct, octets "\"/*%\"") ∷ []))
    ∷ (octets "isShut Pipe_1 fof2", some ((Lower, octets "isShut") ∷ (Upper, octets "Pipe_1") ∷ (Lower, octets "fof2") ∷ []))
    ∷ (octets "_p", none)
    ∷ (octets "''", none)
    ∷ (octets "\"\"", some ((Distinct, octets "\"\"") ∷ []))
    ∷ (octets "'a", none)
    ∷ (octets "$true $truex $$own", some ((Dollar, octets "$true") ∷ (Dollar, octets "$truex") ∷ (DoubleDollar, octets "$$own") ∷ []))
    ∷ (octets "$", none)
    ∷ (octets "$True", none)
    ∷ (octets "$1", none)
    ∷ (octets "$$", none)
    ∷ (octets "$$$a", none)
    ∷ (octets "01", some ((Integer, octets "0") ∷ (Integer, octets "1") ∷ []))
    ∷ (octets "1.", some ((Integer, octets "1") ∷ (Dot, octets ".") ∷ []))
    ∷ (octets ".5", some ((Dot, octets ".") ∷ (Integer, octets "5") ∷ []))
    ∷ (octets "1/0", none)
    ∷ (octets "/", none)
    ∷ (octets "1e", some ((Integer, octets "1") ∷ (Lower, octets "e") ∷ []))
    ∷ (octets "1.5e", some ((Real, octets "1.5") ∷ (Lower, octets "e") ∷ []))
    ∷ (octets "1.5e+", none)
    ∷ (octets "1.5e-p", some ((Real, octets "1.5") ∷ (Lower, octets "e") ∷ (Minus, octets "-") ∷ (Lower, octets "p") ∷ []))
    ∷ (octets "1.50E-007 2e5 -1/23 +0 0.0", some ((Real, octets "1.50E-007") ∷ (Real, octets "2e5") ∷ (Rational, octets "-1/23") ∷ (Integer, octets "+0") ∷ (Real, octets "0.0") ∷ []))
    ∷ (octets "axiom-1 axiom-p", some ((Lower, octets "axiom") ∷ (Integer, octets "-1") ∷ (Lower, octets "axiom") ∷ (Minus, octets "-") ∷ (Lower, octets "p") ∷ []))
    ∷ (octets "+", none)
    ∷ (octets "+p", none)
    ∷ (octets "-01", some ((Integer, octets "-0") ∷ (Integer, octets "1") ∷ []))
    ∷ (octets "()[]{},.:-!?&|~=", some ((OpenParen, octets "(") ∷ (CloseParen, octets ")") ∷ (OpenBracket, octets "[") ∷ (CloseBracket, octets "]") ∷ (OpenBrace, octets "{") ∷ (CloseBrace, octets "}") ∷ (Comma, octets ",") ∷ (Dot, octets ".") ∷ (Colon, octets ":") ∷ (Minus, octets "-") ∷ (ForAll, octets "!") ∷ (Exists, octets "?") ∷ (And, octets "&") ∷ (Or, octets "|") ∷ (Not, octets "~") ∷ (Equal, octets "=") ∷ []))
    ∷ (octets "!= => <= <=> <~> ~| ~& -->", some ((Unequal, octets "!=") ∷ (Implies, octets "=>") ∷ (ImpliedBy, octets "<=") ∷ (Iff, octets "<=>") ∷ (Xor, octets "<~>") ∷ (Nor, octets "~|") ∷ (Nand, octets "~&") ∷ (Sequent, octets "-->") ∷ []))
    ∷ (octets "<=~>", none)
    ∷ (octets "! = ~ | -- >", none)
    ∷ (octets "! = ~ | --", some ((ForAll, octets "!") ∷ (Equal, octets "=") ∷ (Not, octets "~") ∷ (Or, octets "|") ∷ (Minus, octets "-") ∷ (Minus, octets "-") ∷ []))
    ∷ (octets "<", none)
    ∷ (octets "<~", none)
    ∷ (octets "~~|", some ((Not, octets "~") ∷ (Nor, octets "~|") ∷ []))
    ∷ (octets "=>=", some ((Implies, octets "=>") ∷ (Equal, octets "=") ∷ []))
    ∷ (octets "p;q", none)
    ∷ (octets "\\", none)
    ∷ (octets "@", none)
    ∷ (octets "^", none)
    ∷ (octets "*", none)
    ∷ (octets ">", none)
    ∷ (octets "`", none)
    ∷ (octets "#", none)
    ∷ (octets "!=>", none)
    ∷ (39 ∷ 97 ∷ 92 ∷ 39 ∷ 98 ∷ 39 ∷ [], some ((Quoted, 39 ∷ 97 ∷ 92 ∷ 39 ∷ 98 ∷ 39 ∷ []) ∷ []))
    ∷ (39 ∷ 97 ∷ 92 ∷ 92 ∷ 39 ∷ 98 ∷ [], some ((Quoted, 39 ∷ 97 ∷ 92 ∷ 92 ∷ 39 ∷ []) ∷ (Lower, 98 ∷ []) ∷ []))
    ∷ (39 ∷ 97 ∷ 92 ∷ 98 ∷ 39 ∷ [], none)
    ∷ (34 ∷ 92 ∷ 34 ∷ 34 ∷ [], some ((Distinct, 34 ∷ 92 ∷ 34 ∷ 34 ∷ []) ∷ []))
    ∷ (39 ∷ 92 ∷ 34 ∷ 39 ∷ [], none)
    ∷ (37 ∷ 13 ∷ 112 ∷ 10 ∷ 113 ∷ [], some ((Lower, 113 ∷ []) ∷ []))
    ∷ (112 ∷ 9 ∷ 10 ∷ 11 ∷ 12 ∷ 13 ∷ 32 ∷ 113 ∷ [], some ((Lower, 112 ∷ []) ∷ (Lower, 113 ∷ []) ∷ []))
    ∷ (37 ∷ 0 ∷ 255 ∷ 10 ∷ 47 ∷ 42 ∷ 0 ∷ 200 ∷ 42 ∷ 47 ∷ [], some [])
    ∷ (0 ∷ [], none)
    ∷ (8 ∷ [], none)
    ∷ (14 ∷ [], none)
    ∷ (26 ∷ [], none)
    ∷ (127 ∷ [], none)
    ∷ (160 ∷ [], none)
    ∷ (239 ∷ [], none)
    ∷ (39 ∷ 97 ∷ 10 ∷ 39 ∷ [], none)
    ∷ []

pub the-texts : map (λ (x : (List ℕ) × Option (List (Kind × List ℕ))). said x.0) stated ≡ map (λ (x : (List ℕ) × Option (List (Kind × List ℕ))). x.1) stated
unfolding tokens tokens_at tokens_from piece_at scan soonest is_space is_alnum is_sign is_exponent is_plain is_escaped in_line
the-texts = refl
