-- Which strings are names and which are numbers (document 01, "The carrier and the words").
use Rattle.std.specs.Prelude.{ℕ, ◌+◌, ◌-◌, ◌*◌, Bool, true, false, ◌&&◌, ◌||◌, not, List, [], ◌∷◌, leb, eqb, length}
use Rattle.sexp.specs.Decimal.{is_digit}

-- a to z
unfoldable pub is_letter : ℕ → Bool
is_letter c = leb 97 c && leb c 122

-- every octet of a string passes a test
unfoldable pub every : (ℕ → Bool) → List ℕ → Bool
every t [] = true
every t (c ∷ w) = t c && every t w

-- a to z, 0 to 9 or underscore
unfoldable pub is_name_octet : ℕ → Bool
is_name_octet c = is_letter c || is_digit c || eqb c 95

-- a name has 1 to 32 octets: a first octet from a to z, then a to z, 0 to 9 or underscore
unfoldable pub is_name : List ℕ → Bool
is_name [] = false
is_name (c ∷ w) = is_letter c && every is_name_octet w && leb (length w) 31

-- no leading zero, save 0
unfoldable pub no_leading_zero : ℕ → List ℕ → Bool
no_leading_zero c [] = true
no_leading_zero c (d ∷ w) = not (eqb c 48)

-- a number has one to three digits and no leading zero, save 0
unfoldable pub is_number : List ℕ → Bool
is_number [] = false
is_number (c ∷ w) = is_digit c && every is_digit w && leb (length w) 2 && no_leading_zero c w

-- what digits say after those that say v
unfoldable pub worth_after : ℕ → List ℕ → ℕ
worth_after v [] = v
worth_after v (c ∷ w) = worth_after (v * 10 + (c - 48)) w

-- what a number says
unfoldable pub worth : List ℕ → ℕ
worth w = worth_after 0 w
