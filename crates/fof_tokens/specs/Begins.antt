-- The states of the machine that the code goes through, each as the rules of what may still come; and the state after the first byte.
use Rattle.std.specs.Prelude.{ℕ, ◌≡◌, Bool, true, false, ◌||◌, List, [], ◌∷◌, eqb}
use Rattle.std.proofs.Math.Option.{Option, none, some}
use Rattle.basics.specs.Choice.{◌>>=◌}
use Rattle.basics.specs.Text.{octets}
use Rattle.fof_tokens.specs.declared.Kind.{Kind}
use Rattle.fof_tokens.specs.declared.Kind.TheVariants as kind
use Rattle.fof_tokens.specs.declared.first.First.{First}
use Rattle.fof_tokens.specs.declared.first.First.TheVariants as first
use Rattle.fof_tokens.specs.Bytes.{is_alnum, is_digit, is_nonzero, in_line, any_byte}
use Rattle.fof_tokens.specs.Rule.{Rule, empty, byte, ◌▸◌, ◌∣◌, many, just, text, optional}
use Rattle.fof_tokens.specs.Token.{lower_word, character, sign, digits, positive, decimal, fraction, exponent}
use Rattle.fof_tokens.specs.Machine.{Sort, gap, token, Row, step, scan, soonest}
use Rattle.fof_tokens.specs.Next.{table}

-- a block comment, after its slash and after its star
unfoldable pub comment_text : Rule
comment_text = many (byte any_byte) ▸ text (octets "*/")

unfoldable pub comment_star : Rule
comment_star = just 42 ▸ comment_text

-- after a first letter
unfoldable pub in_word : Kind → List Row
in_word k = (token k, many (byte is_alnum)) ∷ []

unfoldable pub dollars : List Row
dollars = (token kind.Dollar, lower_word) ∷ (token kind.DoubleDollar, just 36 ▸ lower_word) ∷ []

-- text in quotes, up to the closing one
abbrev pub is_quote : ℕ → Bool
is_quote q = eqb q 34 || eqb q 39

unfoldable pub in_quotes : ℕ → Sort → List Row
in_quotes q s = (s, many (character q) ▸ just q) ∷ []

unfoldable pub quote_open : List Row
quote_open = (token kind.Quoted, character 39 ▸ many (character 39) ▸ just 39) ∷ []

-- numbers: before the first digit, among the digits, after them
abbrev pub tail : Rule
tail = fraction ▸ optional exponent ∣ exponent

unfoldable pub unsigned : List Row
unsigned = (token kind.Integer, decimal) ∷ (token kind.Rational, decimal ▸ just 47 ▸ positive) ∷ (token kind.Real, decimal ▸ tail) ∷ []

unfoldable pub in_decimal : List Row
in_decimal =
    (token kind.Integer, many (byte is_digit))
    ∷ (token kind.Rational, many (byte is_digit) ▸ just 47 ▸ positive)
    ∷ (token kind.Real, many (byte is_digit) ▸ tail)
    ∷ []

unfoldable pub after_decimal : List Row
after_decimal = (token kind.Integer, empty) ∷ (token kind.Rational, just 47 ▸ positive) ∷ (token kind.Real, tail) ∷ []

-- an exponent, after its letter
unfoldable pub exponent_digits : Sort → List Row
exponent_digits s = (s, optional sign ▸ digits) ∷ []

-- a state in which the first digit of a number may come
unfoldable pub Digits : List Row → Type 0
Digits q = (step 48 q ≡ after_decimal) × ((c : ℕ) → is_nonzero c ≡ true → step c q ≡ in_decimal)

-- signs
unfoldable pub one_more : Kind → ℕ → Kind → List Row
one_more short more long = (token short, empty) ∷ (token long, just more) ∷ []

unfoldable pub after_minus : List Row
after_minus =
    (token kind.Integer, decimal)
    ∷ (token kind.Rational, decimal ▸ just 47 ▸ positive)
    ∷ (token kind.Real, decimal ▸ tail)
    ∷ (token kind.Minus, empty)
    ∷ (token kind.Sequent, just 45 ▸ just 62)
    ∷ []

unfoldable pub after_tilde : List Row
after_tilde = (token kind.Not, empty) ∷ (token kind.Nor, just 124) ∷ (token kind.Nand, just 38) ∷ []

unfoldable pub after_less : List Row
after_less = (token kind.ImpliedBy, just 61) ∷ (token kind.Iff, just 61 ▸ just 62) ∷ (token kind.Xor, just 126 ▸ just 62) ∷ []

-- the state after such a first byte; a block comment is not in the table
unfoldable pub begun : First → List Row
begun first.Space = (gap, empty) ∷ []
begun first.Percent = (gap, many (byte in_line)) ∷ []
begun first.Slash = []
begun (first.Letter k) = in_word k
begun first.Quote = quote_open
begun first.DoubleQuote = in_quotes 34 (token kind.Distinct)
begun first.Dollar = dollars
begun first.Zero = after_decimal
begun first.Nonzero = in_decimal
begun first.Plus = unsigned
begun first.Minus = after_minus
begun (first.Single k) = (token k, empty) ∷ []
begun (first.Double short more long) = one_more short more long
begun first.Tilde = after_tilde
begun first.Less = after_less
begun first.Nothing = []

abbrev pub is_slash : First → Bool
is_slash first.Space = false
is_slash first.Percent = false
is_slash first.Slash = true
is_slash (first.Letter k) = false
is_slash first.Quote = false
is_slash first.DoubleQuote = false
is_slash first.Dollar = false
is_slash first.Zero = false
is_slash first.Nonzero = false
is_slash first.Plus = false
is_slash first.Minus = false
is_slash (first.Single k) = false
is_slash (first.Double short more long) = false
is_slash first.Tilde = false
is_slash first.Less = false
is_slash first.Nothing = false

-- the first byte of a piece is such
unfoldable pub Begins : ℕ → First → Type 0
Begins c f = (step c table ≡ begun f) × (eqb c 47 ≡ is_slash f)

-- one of these bytes
abbrev pub one_of : List ℕ → ℕ → Bool
one_of [] c = false
one_of (b ∷ bs) c = eqb c b || one_of bs c

abbrev pub signs : List ℕ
signs = octets "()[]{},.:?&|!=~<+-"

-- the first byte of a sign or a number's sign is such, or it is the first byte of none
unfoldable pub SignOf : ℕ → First → Type 0
SignOf c first.Nothing = one_of signs c ≡ false
SignOf c first.Space = Begins c first.Space
SignOf c first.Percent = Begins c first.Percent
SignOf c first.Slash = Begins c first.Slash
SignOf c (first.Letter k) = Begins c (first.Letter k)
SignOf c first.Quote = Begins c first.Quote
SignOf c first.DoubleQuote = Begins c first.DoubleQuote
SignOf c first.Dollar = Begins c first.Dollar
SignOf c first.Zero = Begins c first.Zero
SignOf c first.Nonzero = Begins c first.Nonzero
SignOf c first.Plus = Begins c first.Plus
SignOf c first.Minus = Begins c first.Minus
SignOf c (first.Single k) = Begins c (first.Single k)
SignOf c (first.Double short more long) = Begins c (first.Double short more long)
SignOf c first.Tilde = Begins c first.Tilde
SignOf c first.Less = Begins c first.Less

-- what stands there after such a first byte, where `at` is the offset after it
unfoldable pub rest_of : First → ℕ → List ℕ → Option (Sort × ℕ)
rest_of f at t = elim (is_slash f) [ true ↦ (soonest comment_star at t >>= λ e. some (gap, e)) | false ↦ scan (begun f) at none t ]
