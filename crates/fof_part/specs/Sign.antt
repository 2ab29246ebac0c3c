-- The tokens of a TPTP text as the part that is read sees them (document 02, One: `!` and `?` with variable lists, `&`, `|`, `=>`, `$true`, plain lower-case words).
-- Every other token is `other`: a line that holds one is outside the part.
use Rattle.std.specs.Prelude.{ℕ, Bool, List, [], ◌∷◌}
use Rattle.basics.specs.Choice.{choose}
use Rattle.basics.specs.Text.{octets}
use Rattle.harrop.specs.Formula.{Name}
use Rattle.harrop.specs.Bindings.{same_name}
use Rattle.fof_tokens.specs.declared.Kind.{Kind}
use Rattle.fof_tokens.specs.declared.Kind.TheVariants as K
use Rattle.fof_tokens.specs.Token.{Token}

pub data Sign : Type 0 where
  lower : Name → Sign
  upper : Name → Sign
  truth : Sign  -- $true
  opens : Sign  -- (
  closes : Sign  -- )
  lists : Sign  -- [
  ends : Sign  -- ]
  comma : Sign
  colon : Sign
  dot : Sign
  every : Sign  -- !
  exist : Sign  -- the question mark
  both : Sign  -- &
  either : Sign  -- |
  then : Sign  -- =>
  other : Sign

abbrev pub sign_of : Kind → List ℕ → Sign
sign_of K.Lower w = Sign.lower w
sign_of K.Upper w = Sign.upper w
sign_of K.Dollar w = choose (same_name w (octets "$true")) Sign.truth Sign.other
sign_of K.OpenParen w = Sign.opens
sign_of K.CloseParen w = Sign.closes
sign_of K.OpenBracket w = Sign.lists
sign_of K.CloseBracket w = Sign.ends
sign_of K.Comma w = Sign.comma
sign_of K.Colon w = Sign.colon
sign_of K.Dot w = Sign.dot
sign_of K.ForAll w = Sign.every
sign_of K.Exists w = Sign.exist
sign_of K.And w = Sign.both
sign_of K.Or w = Sign.either
sign_of K.Implies w = Sign.then
sign_of K.Quoted w = Sign.other
sign_of K.Distinct w = Sign.other
sign_of K.DoubleDollar w = Sign.other
sign_of K.Integer w = Sign.other
sign_of K.Rational w = Sign.other
sign_of K.Real w = Sign.other
sign_of K.OpenBrace w = Sign.other
sign_of K.CloseBrace w = Sign.other
sign_of K.Minus w = Sign.other
sign_of K.Not w = Sign.other
sign_of K.Equal w = Sign.other
sign_of K.Unequal w = Sign.other
sign_of K.ImpliedBy w = Sign.other
sign_of K.Iff w = Sign.other
sign_of K.Xor w = Sign.other
sign_of K.Nor w = Sign.other
sign_of K.Nand w = Sign.other
sign_of K.Sequent w = Sign.other

abbrev pub signs : List Token → List Sign
signs [] = []
signs (t ∷ ts) = sign_of t.kind t.bytes ∷ signs ts

-- a number for each, to compare them by
abbrev pub code : Sign → ℕ
code (Sign.lower w) = 0
code (Sign.upper w) = 1
code Sign.truth = 2
code Sign.opens = 3
code Sign.closes = 4
code Sign.lists = 5
code Sign.ends = 6
code Sign.comma = 7
code Sign.colon = 8
code Sign.dot = 9
code Sign.every = 10
code Sign.exist = 11
code Sign.both = 12
code Sign.either = 13
code Sign.then = 14
code Sign.other = 15

abbrev pub opens_code : ℕ
opens_code = 3

abbrev pub closes_code : ℕ
closes_code = 4

abbrev pub lists_code : ℕ
lists_code = 5

abbrev pub ends_code : ℕ
ends_code = 6

abbrev pub comma_code : ℕ
comma_code = 7

abbrev pub colon_code : ℕ
colon_code = 8

abbrev pub dot_code : ℕ
dot_code = 9

abbrev pub both_code : ℕ
both_code = 12

abbrev pub either_code : ℕ
either_code = 13

abbrev pub then_code : ℕ
then_code = 14
