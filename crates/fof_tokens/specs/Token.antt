-- The tokens of a TPTP text (document 02, request One): which bytes are a token of which kind, production by production as TPTP's grammar has them (its `::-` rules).
-- No word is reserved. How a text is cut into tokens is said in Cuts. Older and newer forms of the grammar differ in some points; docs/DECISIONS.md says which form is meant.
use Rattle.std.specs.Prelude.{ℕ, List}
use Rattle.basics.specs.Text.{octets}
use Rattle.fof_tokens.specs.declared.Kind.{Kind}
use Rattle.fof_tokens.specs.declared.Kind.TheVariants.{Lower, Upper, Quoted, Distinct, Dollar, DoubleDollar, Integer, Rational, Real}
use Rattle.fof_tokens.specs.declared.Kind.TheVariants.{OpenParen, CloseParen, OpenBracket, CloseBracket, OpenBrace, CloseBrace, Comma, Dot, Colon, Minus}
use Rattle.fof_tokens.specs.declared.Kind.TheVariants.{ForAll, Exists, Not, And, Or, Equal, Unequal, Implies, ImpliedBy, Iff, Xor, Nor, Nand, Sequent}
use Rattle.fof_tokens.specs.Bytes.{is_small, is_capital, is_alnum, is_digit, is_nonzero, is_sign, is_exponent, is_plain, is_escaped}
use Rattle.fof_tokens.specs.Rule.{Rule, byte, ◌▸◌, ◌∣◌, many, just, text, optional, ◌by◌}

-- words
abbrev pub lower_word : Rule
lower_word = byte is_small ▸ many (byte is_alnum)

abbrev pub upper_word : Rule
upper_word = byte is_capital ▸ many (byte is_alnum)

-- one character between the quotes q: as it is, or after a backslash
abbrev pub character : ℕ → Rule
character q = byte (is_plain q) ∣ just 92 ▸ byte (is_escaped q)

-- at least one character between single quotes
abbrev pub single_quoted : Rule
single_quoted = just 39 ▸ character 39 ▸ many (character 39) ▸ just 39

-- any number of characters between double quotes
abbrev pub distinct_object : Rule
distinct_object = just 34 ▸ many (character 34) ▸ just 34

-- numbers
abbrev pub sign : Rule
sign = byte is_sign

abbrev pub digits : Rule
digits = byte is_digit ▸ many (byte is_digit)

-- no leading zero
abbrev pub positive : Rule
positive = byte is_nonzero ▸ many (byte is_digit)

abbrev pub decimal : Rule
decimal = just 48 ∣ positive

abbrev pub fraction : Rule
fraction = just 46 ▸ digits

abbrev pub exponent : Rule
exponent = byte is_exponent ▸ optional sign ▸ digits

abbrev pub real : Rule
real = decimal ▸ (fraction ▸ optional exponent ∣ exponent)

-- which bytes are a token of this kind
abbrev pub rule : Kind → Rule
rule Lower = lower_word
rule Upper = upper_word
rule Quoted = single_quoted
rule Distinct = distinct_object
rule Dollar = just 36 ▸ lower_word
rule DoubleDollar = just 36 ▸ just 36 ▸ lower_word
rule Integer = optional sign ▸ decimal
rule Rational = optional sign ▸ decimal ▸ just 47 ▸ positive
rule Real = optional sign ▸ real
rule OpenParen = text (octets "(")
rule CloseParen = text (octets ")")
rule OpenBracket = text (octets "[")
rule CloseBracket = text (octets "]")
rule OpenBrace = text (octets "{")
rule CloseBrace = text (octets "}")
rule Comma = text (octets ",")
rule Dot = text (octets ".")
rule Colon = text (octets ":")
rule Minus = text (octets "-")
rule ForAll = text (octets "!")
rule Exists = text (octets "?")
rule Not = text (octets "~")
rule And = text (octets "&")
rule Or = text (octets "|")
rule Equal = text (octets "=")
rule Unequal = text (octets "!=")
rule Implies = text (octets "=>")
rule ImpliedBy = text (octets "<=")
rule Iff = text (octets "<=>")
rule Xor = text (octets "<~>")
rule Nor = text (octets "~|")
rule Nand = text (octets "~&")
rule Sequent = text (octets "-->")

abbrev pub IsToken : Kind → List ℕ → Type 0
IsToken k w = w by rule k

-- a token of a text: its kind, the offset of its first byte, and its bytes
pub record Token : Type 0 where
  pub kind : Kind
  pub at : ℕ
  pub bytes : List ℕ
