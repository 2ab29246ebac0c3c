-- The tokens as the grammar of `fof` lines sees them (document 02, request One): one for each sign and each kind of token,
-- and one for each word that a production names. Those four words are told by their bytes; every other word is just a word.
use Rattle.std.specs.Prelude.{ℕ, Bool, List}
use Rattle.basics.specs.Choice.{choose}
use Rattle.basics.specs.Text.{octets}
use Rattle.harrop.specs.Bindings.{same_name}
use Rattle.fof_tokens.specs.declared.Kind.{Kind}
use Rattle.fof_tokens.specs.declared.Kind.TheVariants as K

pub data Terminal : Type 0 where
  'fof' : Terminal
  other_word : Terminal
  single-q : Terminal
  upper-word : Terminal
  distinct : Terminal
  '$fof' : Terminal
  '$cnf' : Terminal
  '$fot' : Terminal
  other-dollar : Terminal
  ddollar : Terminal
  integer : Terminal
  rational : Terminal
  real : Terminal
  lparen : Terminal
  rparen : Terminal
  '[' : Terminal
  ']' : Terminal
  lbrace : Terminal
  rbrace : Terminal
  comma : Terminal
  dot : Terminal
  ':' : Terminal
  '-' : Terminal
  '!' : Terminal
  '?' : Terminal
  '~' : Terminal
  '&' : Terminal
  '|' : Terminal
  '=' : Terminal
  '!=' : Terminal
  '=>' : Terminal
  '<=' : Terminal
  '<=>' : Terminal
  '<~>' : Terminal
  '~|' : Terminal
  '~&' : Terminal
  '-->' : Terminal

-- the same bytes
abbrev pub same_octets : List ℕ → List ℕ → Bool
same_octets u v = same_name u v

-- what a token of a kind with these bytes is
abbrev pub terminal : Kind → List ℕ → Terminal
terminal K.Lower w = choose (same_octets w (octets "fof")) 'fof' other_word
terminal K.Dollar w =
    choose (same_octets w (octets "$fof")) '$fof'
    (choose (same_octets w (octets "$cnf")) '$cnf' (choose (same_octets w (octets "$fot")) '$fot' other-dollar))
terminal K.Quoted w = single-q
terminal K.Upper w = upper-word
terminal K.Distinct w = distinct
terminal K.DoubleDollar w = ddollar
terminal K.Integer w = integer
terminal K.Rational w = rational
terminal K.Real w = real
terminal K.OpenParen w = lparen
terminal K.CloseParen w = rparen
terminal K.OpenBracket w = '['
terminal K.CloseBracket w = ']'
terminal K.OpenBrace w = lbrace
terminal K.CloseBrace w = rbrace
terminal K.Comma w = comma
terminal K.Dot w = dot
terminal K.Colon w = ':'
terminal K.Minus w = '-'
terminal K.ForAll w = '!'
terminal K.Exists w = '?'
terminal K.Not w = '~'
terminal K.And w = '&'
terminal K.Or w = '|'
terminal K.Equal w = '='
terminal K.Unequal w = '!='
terminal K.Implies w = '=>'
terminal K.ImpliedBy w = '<='
terminal K.Iff w = '<=>'
terminal K.Xor w = '<~>'
terminal K.Nor w = '~|'
terminal K.Nand w = '~&'
terminal K.Sequent w = '-->'

-- a number for each, to compare them by
abbrev pub code : Terminal → ℕ
code 'fof' = 0
code other_word = 1
code single-q = 2
code upper-word = 3
code distinct = 4
code '$fof' = 5
code '$cnf' = 6
code '$fot' = 7
code other-dollar = 8
code ddollar = 9
code integer = 10
code rational = 11
code real = 12
code lparen = 13
code rparen = 14
code '[' = 15
code ']' = 16
code lbrace = 17
code rbrace = 18
code comma = 19
code dot = 20
code ':' = 21
code '-' = 22
code '!' = 23
code '?' = 24
code '~' = 25
code '&' = 26
code '|' = 27
code '=' = 28
code '!=' = 29
code '=>' = 30
code '<=' = 31
code '<=>' = 32
code '<~>' = 33
code '~|' = 34
code '~&' = 35
code '-->' = 36
