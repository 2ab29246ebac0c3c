-- How the code writes tokens, names and symbols as bytes, and its stack. A token is its number, and the end of the text is 37; on the stack a token is 35 and its number, a name 75 and its number.
-- The alternatives are numbered through, name after name; 255 is none.
use Rattle.std.specs.Prelude.{ℕ, ◌+◌, ◌≡◌, List, [], ◌∷◌, map, reverse, eqb, get_or}
use Rattle.std.proofs.Math.Option.{Option, none, some}
use Rattle.basics.specs.Choice.{choose}
use Rattle.grammar.specs.Derives.{Symbol, the, any}
use Rattle.grammar.specs.Recast.{gather}
use Rattle.fof_productions.specs.Terminal.{Terminal, 'fof', other_word, single-q, upper-word, distinct, '$fof', '$cnf', '$fot', other-dollar, ddollar, integer, rational, real, lparen, rparen, '[', ']', lbrace, rbrace, comma, dot, ':', '-', '!', '?', '~', '&', '|', '=', '!=', '=>', '<=', '<=>', '<~>', '~|', '~&', '-->'}
use Rattle.fof_productions.specs.Terminal.{code}
use Rattle.fof_productions.specs.Name.{Name, aid, file, line, name, role, annotations, second-part, formula, logic, and-more, or-more, nonassoc, unit, quantifier, variable, variables, sequent, tuple, logics, logic-more, term, plain-term, defined-term, system-term, arguments, terms, number, general-term, general-data, general-arguments, general-terms, general-list, general-members, cnf, literals, literal, atomic, lower_word, dollar}
use Rattle.fof_productions.specs.Name.{role-end, logic-end, equation, atom-end, general-end, denied, equal-end}
use Rattle.fof_productions.specs.Name.{ordinal}
use Rattle.fof_productions.specs.Decided.{choices}

abbrev pub terminals : List Terminal
terminals = 'fof' ∷ other_word ∷ single-q ∷ upper-word ∷ distinct ∷ '$fof' ∷ '$cnf' ∷ '$fot' ∷ other-dollar ∷ ddollar ∷ integer ∷ rational ∷ real ∷ lparen ∷ rparen ∷ '[' ∷ ']' ∷ lbrace ∷ rbrace ∷ comma ∷ dot ∷ ':' ∷ '-' ∷ '!' ∷ '?' ∷ '~' ∷ '&' ∷ '|' ∷ '=' ∷ '!=' ∷ '=>' ∷ '<=' ∷ '<=>' ∷ '<~>' ∷ '~|' ∷ '~&' ∷ '-->' ∷ []

abbrev pub names : List Name
names = file ∷ line ∷ name ∷ role ∷ annotations ∷ second-part ∷ formula ∷ logic ∷ and-more ∷ or-more ∷ nonassoc ∷ unit ∷ quantifier ∷ variable ∷ variables ∷ sequent ∷ tuple ∷ logics ∷ logic-more ∷ term ∷ plain-term ∷ defined-term ∷ system-term ∷ arguments ∷ terms ∷ number ∷ general-term ∷ general-data ∷ general-arguments ∷ general-terms ∷ general-list ∷ general-members ∷ cnf ∷ literals ∷ literal ∷ atomic ∷ lower_word ∷ dollar ∷ aid role-end ∷ aid logic-end ∷ aid equation ∷ aid atom-end ∷ aid general-end ∷ aid denied ∷ aid equal-end ∷ []

-- back from the number
unfoldable pub terminal_at : ℕ → Terminal
terminal_at i = get_or terminals i 'fof'

unfoldable pub name_at : ℕ → Name
name_at i = get_or names i file

-- the token ahead, or the end
unfoldable pub token_at : ℕ → Option Terminal
token_at i = choose (eqb i 37) none (some (terminal_at i))

-- a symbol on the stack
unfoldable pub mark : Symbol Terminal Name → ℕ
mark (the a) = 35 + code a
mark (any m) = 75 + ordinal m

-- the alternatives
unfoldable pub flat : ℕ → List (Symbol Terminal Name)
flat k = get_or (gather choices names) k []

unfoldable pub alternative_at : ℕ → Option (List (Symbol Terminal Name))
alternative_at k = choose (eqb k 255) none (some (flat k))

-- the symbols of an alternative, from the last to the first
unfoldable pub mark_at : ℕ → ℕ → ℕ
mark_at k i = get_or (map mark (reverse (flat k))) i 0

-- the first n bytes of the stack are these symbols, the top being the last byte
abbrev pub Holds : List ℕ → ℕ → List (Symbol Terminal Name) → Type 0
Holds stack n [] = n ≡ 0
Holds stack n (s ∷ ss) = (k : ℕ) × (n ≡ k + 1) × (get_or stack k 0 ≡ mark s) × Holds stack k ss
