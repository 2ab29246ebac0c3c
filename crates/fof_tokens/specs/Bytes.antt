-- The classes of bytes that TPTP's tokens are made of (document 02, request One; the grammar's `:::` rules). Each is a test of a byte's number.
-- Document 02 leaves two points open: which bytes are spaces, and what a comment may hold. docs/DECISIONS.md says how they were decided.
use Rattle.std.specs.Prelude.{ℕ, Bool, true, ◌&&◌, ◌||◌, not, leb, eqb}

-- from a to b
abbrev pub within : ℕ → ℕ → ℕ → Bool
within a b c = leb a c && leb c b

-- tab, line feed, vertical tab, form feed, carriage return, space
unfoldable pub is_space : ℕ → Bool
is_space c = within 9 13 c || eqb c 32

-- a to z
abbrev pub is_small : ℕ → Bool
is_small c = within 97 122 c

-- A to Z
abbrev pub is_capital : ℕ → Bool
is_capital c = within 65 90 c

-- 0 to 9
abbrev pub is_digit : ℕ → Bool
is_digit c = within 48 57 c

-- 1 to 9
abbrev pub is_nonzero : ℕ → Bool
is_nonzero c = within 49 57 c

-- a letter, a digit or the underscore
unfoldable pub is_alnum : ℕ → Bool
is_alnum c = is_small c || is_capital c || is_digit c || eqb c 95

-- + or -
unfoldable pub is_sign : ℕ → Bool
is_sign c = eqb c 43 || eqb c 45

-- E or e
unfoldable pub is_exponent : ℕ → Bool
is_exponent c = eqb c 69 || eqb c 101

-- what may stand between the quotes q as it is: printable ASCII and the space, but neither the quote nor the backslash
unfoldable pub is_plain : ℕ → ℕ → Bool
is_plain q c = within 32 126 c && not (eqb c q) && not (eqb c 92)

-- what may follow a backslash between the quotes q: the backslash and the quote
unfoldable pub is_escaped : ℕ → ℕ → Bool
is_escaped q c = eqb c 92 || eqb c q

-- what a line comment may hold: any byte but the line feed
unfoldable pub in_line : ℕ → Bool
in_line c = not (eqb c 10)

-- what a block comment may hold
abbrev pub any_byte : ℕ → Bool
any_byte c = true
