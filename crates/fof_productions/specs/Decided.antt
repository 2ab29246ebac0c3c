-- The grammar as the machine reads it: the same names, and alternatives that the token ahead decides. Where two productions begin alike, what begins them is read once and a name for the rest follows.
-- That it derives what the grammar derives is proved (proofs/Same), and so is that the sets below are right and decide every choice (proofs/Right): a wrong entry is refused there.
use Rattle.std.specs.Prelude.{Bool, true, false, List, [], ◌∷◌, ℕ, eqb}
use Rattle.std.proofs.Math.Option.{Option, none, some}
use Rattle.grammar.specs.Derives.{Symbol, the, any}
use Rattle.fof_productions.specs.Terminal.{Terminal, 'fof', other_word, single-q, upper-word, distinct, '$fof', '$cnf', '$fot', other-dollar, ddollar, integer, rational, real, lparen, rparen, '[', ']', lbrace, rbrace, comma, ':', '-', '!', '?', '~', '&', '|', '=', '!=', '=>', '<=', '<=>', '<~>', '~|', '~&', '-->'}
use Rattle.fof_productions.specs.Name.{Name, aid, file, line, name, role, annotations, second-part, formula, logic, and-more, or-more, nonassoc, unit, quantifier, variable, variables, sequent, tuple, logics, logic-more, term, plain-term, defined-term, system-term, arguments, terms, number, general-term, general-data, general-arguments, general-terms, general-list, general-members, cnf, literals, literal, atomic, lower_word, dollar}
use Rattle.fof_productions.specs.Name.{role-end, logic-end, equation, atom-end, general-end, denied, equal-end}
use Rattle.grammar.specs.Machine.{Grammar}
use Rattle.fof_productions.specs.Terminal.{code}
use Rattle.fof_productions.specs.Name.{ordinal}
use Rattle.fof_productions.specs.Aids.{aids}
use Rattle.fof_productions.specs.Grammar.{productions}

abbrev pub choices : Name → List (List (Symbol Terminal Name))
choices role = (any lower_word ∷ any (aid role-end) ∷ []) ∷ []
choices logic = (any unit ∷ any (aid logic-end) ∷ []) ∷ []
choices unit =
    (any quantifier ∷ the '[' ∷ any variable ∷ any variables ∷ the ']' ∷ the ':' ∷ any unit ∷ [])
    ∷ (the '~' ∷ any unit ∷ [])
    ∷ (any variable ∷ any (aid equation) ∷ [])
    ∷ (any number ∷ any (aid equation) ∷ [])
    ∷ (the distinct ∷ any (aid equation) ∷ [])
    ∷ (any plain-term ∷ any (aid atom-end) ∷ [])
    ∷ (any defined-term ∷ any (aid atom-end) ∷ [])
    ∷ (any system-term ∷ any (aid atom-end) ∷ [])
    ∷ (the lparen ∷ any logic ∷ the rparen ∷ [])
    ∷ []
choices general-term =
    (any general-data ∷ any (aid general-end) ∷ [])
    ∷ (any general-list ∷ [])
    ∷ []
choices literal =
    (the '~' ∷ any (aid denied) ∷ [])
    ∷ (any variable ∷ any (aid equation) ∷ [])
    ∷ (any number ∷ any (aid equation) ∷ [])
    ∷ (the distinct ∷ any (aid equation) ∷ [])
    ∷ (any plain-term ∷ any (aid atom-end) ∷ [])
    ∷ (any defined-term ∷ any (aid atom-end) ∷ [])
    ∷ (any system-term ∷ any (aid atom-end) ∷ [])
    ∷ []
choices atomic =
    (any variable ∷ the '=' ∷ any term ∷ [])
    ∷ (any number ∷ the '=' ∷ any term ∷ [])
    ∷ (the distinct ∷ the '=' ∷ any term ∷ [])
    ∷ (any plain-term ∷ any (aid equal-end) ∷ [])
    ∷ (any defined-term ∷ any (aid equal-end) ∷ [])
    ∷ (any system-term ∷ any (aid equal-end) ∷ [])
    ∷ []
choices file = productions file
choices line = productions line
choices name = productions name
choices annotations = productions annotations
choices second-part = productions second-part
choices formula = productions formula
choices and-more = productions and-more
choices or-more = productions or-more
choices nonassoc = productions nonassoc
choices quantifier = productions quantifier
choices variable = productions variable
choices variables = productions variables
choices sequent = productions sequent
choices tuple = productions tuple
choices logics = productions logics
choices logic-more = productions logic-more
choices term = productions term
choices plain-term = productions plain-term
choices defined-term = productions defined-term
choices system-term = productions system-term
choices arguments = productions arguments
choices terms = productions terms
choices number = productions number
choices general-data = productions general-data
choices general-arguments = productions general-arguments
choices general-terms = productions general-terms
choices general-list = productions general-list
choices general-members = productions general-members
choices cnf = productions cnf
choices literals = productions literals
choices lower_word = productions lower_word
choices dollar = productions dollar
choices (aid a) = aids a

-- the token that a formula looks past: a formula and a sequent may both begin with it
abbrev pub past : Terminal → Bool
past a = eqb (code a) (code lparen)

abbrev pub looks : Name → Bool
looks m = eqb (ordinal m) (ordinal formula)

-- the tokens that a name may begin with
abbrev pub begins : Name → List (Option Terminal)
begins file = some 'fof' ∷ []
begins line = some 'fof' ∷ []
begins name = some 'fof' ∷ some other_word ∷ some single-q ∷ some integer ∷ []
begins role = some 'fof' ∷ some other_word ∷ []
begins annotations = some comma ∷ []
begins second-part = some comma ∷ []
begins formula = some 'fof' ∷ some other_word ∷ some single-q ∷ some upper-word ∷ some distinct ∷ some '$fof' ∷ some '$cnf' ∷ some '$fot' ∷ some other-dollar ∷ some ddollar ∷ some integer ∷ some rational ∷ some real ∷ some lparen ∷ some '[' ∷ some lbrace ∷ some '!' ∷ some '?' ∷ some '~' ∷ []
begins logic = some 'fof' ∷ some other_word ∷ some single-q ∷ some upper-word ∷ some distinct ∷ some '$fof' ∷ some '$cnf' ∷ some '$fot' ∷ some other-dollar ∷ some ddollar ∷ some integer ∷ some rational ∷ some real ∷ some lparen ∷ some '!' ∷ some '?' ∷ some '~' ∷ []
begins and-more = some '&' ∷ []
begins or-more = some '|' ∷ []
begins nonassoc = some '=>' ∷ some '<=' ∷ some '<=>' ∷ some '<~>' ∷ some '~|' ∷ some '~&' ∷ []
begins unit = some 'fof' ∷ some other_word ∷ some single-q ∷ some upper-word ∷ some distinct ∷ some '$fof' ∷ some '$cnf' ∷ some '$fot' ∷ some other-dollar ∷ some ddollar ∷ some integer ∷ some rational ∷ some real ∷ some lparen ∷ some '!' ∷ some '?' ∷ some '~' ∷ []
begins quantifier = some '!' ∷ some '?' ∷ []
begins variable = some upper-word ∷ []
begins variables = some comma ∷ []
begins sequent = some lparen ∷ some '[' ∷ some lbrace ∷ []
begins tuple = some '[' ∷ some lbrace ∷ []
begins logics = some 'fof' ∷ some other_word ∷ some single-q ∷ some upper-word ∷ some distinct ∷ some '$fof' ∷ some '$cnf' ∷ some '$fot' ∷ some other-dollar ∷ some ddollar ∷ some integer ∷ some rational ∷ some real ∷ some lparen ∷ some '!' ∷ some '?' ∷ some '~' ∷ []
begins logic-more = some comma ∷ []
begins term = some 'fof' ∷ some other_word ∷ some single-q ∷ some upper-word ∷ some distinct ∷ some '$fof' ∷ some '$cnf' ∷ some '$fot' ∷ some other-dollar ∷ some ddollar ∷ some integer ∷ some rational ∷ some real ∷ []
begins plain-term = some 'fof' ∷ some other_word ∷ some single-q ∷ []
begins defined-term = some '$fof' ∷ some '$cnf' ∷ some '$fot' ∷ some other-dollar ∷ []
begins system-term = some ddollar ∷ []
begins arguments = some lparen ∷ []
begins terms = some comma ∷ []
begins number = some integer ∷ some rational ∷ some real ∷ []
begins general-term = some 'fof' ∷ some other_word ∷ some single-q ∷ some upper-word ∷ some distinct ∷ some '$fof' ∷ some '$cnf' ∷ some '$fot' ∷ some integer ∷ some rational ∷ some real ∷ some '[' ∷ []
begins general-data = some 'fof' ∷ some other_word ∷ some single-q ∷ some upper-word ∷ some distinct ∷ some '$fof' ∷ some '$cnf' ∷ some '$fot' ∷ some integer ∷ some rational ∷ some real ∷ []
begins general-arguments = some lparen ∷ []
begins general-terms = some comma ∷ []
begins general-list = some '[' ∷ []
begins general-members = some 'fof' ∷ some other_word ∷ some single-q ∷ some upper-word ∷ some distinct ∷ some '$fof' ∷ some '$cnf' ∷ some '$fot' ∷ some integer ∷ some rational ∷ some real ∷ some '[' ∷ []
begins cnf = some 'fof' ∷ some other_word ∷ some single-q ∷ some upper-word ∷ some distinct ∷ some '$fof' ∷ some '$cnf' ∷ some '$fot' ∷ some other-dollar ∷ some ddollar ∷ some integer ∷ some rational ∷ some real ∷ some lparen ∷ some '~' ∷ []
begins literals = some '|' ∷ []
begins literal = some 'fof' ∷ some other_word ∷ some single-q ∷ some upper-word ∷ some distinct ∷ some '$fof' ∷ some '$cnf' ∷ some '$fot' ∷ some other-dollar ∷ some ddollar ∷ some integer ∷ some rational ∷ some real ∷ some '~' ∷ []
begins atomic = some 'fof' ∷ some other_word ∷ some single-q ∷ some upper-word ∷ some distinct ∷ some '$fof' ∷ some '$cnf' ∷ some '$fot' ∷ some other-dollar ∷ some ddollar ∷ some integer ∷ some rational ∷ some real ∷ []
begins lower_word = some 'fof' ∷ some other_word ∷ []
begins dollar = some '$fof' ∷ some '$cnf' ∷ some '$fot' ∷ some other-dollar ∷ []
begins (aid role-end) = some '-' ∷ []
begins (aid logic-end) = some '&' ∷ some '|' ∷ some '=>' ∷ some '<=' ∷ some '<=>' ∷ some '<~>' ∷ some '~|' ∷ some '~&' ∷ []
begins (aid equation) = some '=' ∷ some '!=' ∷ []
begins (aid atom-end) = some '=' ∷ some '!=' ∷ []
begins (aid general-end) = some ':' ∷ []
begins (aid denied) = some 'fof' ∷ some other_word ∷ some single-q ∷ some upper-word ∷ some distinct ∷ some '$fof' ∷ some '$cnf' ∷ some '$fot' ∷ some other-dollar ∷ some ddollar ∷ some integer ∷ some rational ∷ some real ∷ some lparen ∷ []
begins (aid equal-end) = some '=' ∷ []

-- the same, looking past
abbrev pub begins_past : Name → List (Option Terminal)
begins_past file = some 'fof' ∷ []
begins_past line = some 'fof' ∷ []
begins_past name = some 'fof' ∷ some other_word ∷ some single-q ∷ some integer ∷ []
begins_past role = some 'fof' ∷ some other_word ∷ []
begins_past annotations = some comma ∷ []
begins_past second-part = some comma ∷ []
begins_past formula = some 'fof' ∷ some other_word ∷ some single-q ∷ some upper-word ∷ some distinct ∷ some '$fof' ∷ some '$cnf' ∷ some '$fot' ∷ some other-dollar ∷ some ddollar ∷ some integer ∷ some rational ∷ some real ∷ some '[' ∷ some lbrace ∷ some '!' ∷ some '?' ∷ some '~' ∷ []
begins_past logic = some 'fof' ∷ some other_word ∷ some single-q ∷ some upper-word ∷ some distinct ∷ some '$fof' ∷ some '$cnf' ∷ some '$fot' ∷ some other-dollar ∷ some ddollar ∷ some integer ∷ some rational ∷ some real ∷ some '!' ∷ some '?' ∷ some '~' ∷ []
begins_past and-more = some '&' ∷ []
begins_past or-more = some '|' ∷ []
begins_past nonassoc = some '=>' ∷ some '<=' ∷ some '<=>' ∷ some '<~>' ∷ some '~|' ∷ some '~&' ∷ []
begins_past unit = some 'fof' ∷ some other_word ∷ some single-q ∷ some upper-word ∷ some distinct ∷ some '$fof' ∷ some '$cnf' ∷ some '$fot' ∷ some other-dollar ∷ some ddollar ∷ some integer ∷ some rational ∷ some real ∷ some '!' ∷ some '?' ∷ some '~' ∷ []
begins_past quantifier = some '!' ∷ some '?' ∷ []
begins_past variable = some upper-word ∷ []
begins_past variables = some comma ∷ []
begins_past sequent = some '[' ∷ some lbrace ∷ []
begins_past tuple = some '[' ∷ some lbrace ∷ []
begins_past logics = some 'fof' ∷ some other_word ∷ some single-q ∷ some upper-word ∷ some distinct ∷ some '$fof' ∷ some '$cnf' ∷ some '$fot' ∷ some other-dollar ∷ some ddollar ∷ some integer ∷ some rational ∷ some real ∷ some '!' ∷ some '?' ∷ some '~' ∷ []
begins_past logic-more = some comma ∷ []
begins_past term = some 'fof' ∷ some other_word ∷ some single-q ∷ some upper-word ∷ some distinct ∷ some '$fof' ∷ some '$cnf' ∷ some '$fot' ∷ some other-dollar ∷ some ddollar ∷ some integer ∷ some rational ∷ some real ∷ []
begins_past plain-term = some 'fof' ∷ some other_word ∷ some single-q ∷ []
begins_past defined-term = some '$fof' ∷ some '$cnf' ∷ some '$fot' ∷ some other-dollar ∷ []
begins_past system-term = some ddollar ∷ []
begins_past arguments = some 'fof' ∷ some other_word ∷ some single-q ∷ some upper-word ∷ some distinct ∷ some '$fof' ∷ some '$cnf' ∷ some '$fot' ∷ some other-dollar ∷ some ddollar ∷ some integer ∷ some rational ∷ some real ∷ []
begins_past terms = some comma ∷ []
begins_past number = some integer ∷ some rational ∷ some real ∷ []
begins_past general-term = some 'fof' ∷ some other_word ∷ some single-q ∷ some upper-word ∷ some distinct ∷ some '$fof' ∷ some '$cnf' ∷ some '$fot' ∷ some integer ∷ some rational ∷ some real ∷ some '[' ∷ []
begins_past general-data = some 'fof' ∷ some other_word ∷ some single-q ∷ some upper-word ∷ some distinct ∷ some '$fof' ∷ some '$cnf' ∷ some '$fot' ∷ some integer ∷ some rational ∷ some real ∷ []
begins_past general-arguments = some 'fof' ∷ some other_word ∷ some single-q ∷ some upper-word ∷ some distinct ∷ some '$fof' ∷ some '$cnf' ∷ some '$fot' ∷ some integer ∷ some rational ∷ some real ∷ some '[' ∷ []
begins_past general-terms = some comma ∷ []
begins_past general-list = some '[' ∷ []
begins_past general-members = some 'fof' ∷ some other_word ∷ some single-q ∷ some upper-word ∷ some distinct ∷ some '$fof' ∷ some '$cnf' ∷ some '$fot' ∷ some integer ∷ some rational ∷ some real ∷ some '[' ∷ []
begins_past cnf = some 'fof' ∷ some other_word ∷ some single-q ∷ some upper-word ∷ some distinct ∷ some '$fof' ∷ some '$cnf' ∷ some '$fot' ∷ some other-dollar ∷ some ddollar ∷ some integer ∷ some rational ∷ some real ∷ some '~' ∷ []
begins_past literals = some '|' ∷ []
begins_past literal = some 'fof' ∷ some other_word ∷ some single-q ∷ some upper-word ∷ some distinct ∷ some '$fof' ∷ some '$cnf' ∷ some '$fot' ∷ some other-dollar ∷ some ddollar ∷ some integer ∷ some rational ∷ some real ∷ some '~' ∷ []
begins_past atomic = some 'fof' ∷ some other_word ∷ some single-q ∷ some upper-word ∷ some distinct ∷ some '$fof' ∷ some '$cnf' ∷ some '$fot' ∷ some other-dollar ∷ some ddollar ∷ some integer ∷ some rational ∷ some real ∷ []
begins_past lower_word = some 'fof' ∷ some other_word ∷ []
begins_past dollar = some '$fof' ∷ some '$cnf' ∷ some '$fot' ∷ some other-dollar ∷ []
begins_past (aid role-end) = some '-' ∷ []
begins_past (aid logic-end) = some '&' ∷ some '|' ∷ some '=>' ∷ some '<=' ∷ some '<=>' ∷ some '<~>' ∷ some '~|' ∷ some '~&' ∷ []
begins_past (aid equation) = some '=' ∷ some '!=' ∷ []
begins_past (aid atom-end) = some '=' ∷ some '!=' ∷ []
begins_past (aid general-end) = some ':' ∷ []
begins_past (aid denied) = some 'fof' ∷ some other_word ∷ some single-q ∷ some upper-word ∷ some distinct ∷ some '$fof' ∷ some '$cnf' ∷ some '$fot' ∷ some other-dollar ∷ some ddollar ∷ some integer ∷ some rational ∷ some real ∷ []
begins_past (aid equal-end) = some '=' ∷ []

-- the names that may be nothing
abbrev pub vanishes : Name → Bool
vanishes file = true
vanishes line = false
vanishes name = false
vanishes role = false
vanishes annotations = true
vanishes second-part = true
vanishes formula = false
vanishes logic = false
vanishes and-more = true
vanishes or-more = true
vanishes nonassoc = false
vanishes unit = false
vanishes quantifier = false
vanishes variable = false
vanishes variables = true
vanishes sequent = false
vanishes tuple = false
vanishes logics = true
vanishes logic-more = true
vanishes term = false
vanishes plain-term = false
vanishes defined-term = false
vanishes system-term = false
vanishes arguments = true
vanishes terms = true
vanishes number = false
vanishes general-term = false
vanishes general-data = false
vanishes general-arguments = true
vanishes general-terms = true
vanishes general-list = false
vanishes general-members = true
vanishes cnf = false
vanishes literals = true
vanishes literal = false
vanishes atomic = false
vanishes lower_word = false
vanishes dollar = false
vanishes (aid role-end) = true
vanishes (aid logic-end) = true
vanishes (aid equation) = false
vanishes (aid atom-end) = true
vanishes (aid general-end) = true
vanishes (aid denied) = false
vanishes (aid equal-end) = true

-- the tokens that may follow a name; none: the end of the text
abbrev pub follows : Name → List (Option Terminal)
follows file = none ∷ []
follows line = some 'fof' ∷ none ∷ []
follows name = some comma ∷ []
follows role = some comma ∷ []
follows annotations = some rparen ∷ []
follows second-part = some rparen ∷ []
follows formula = some rparen ∷ some comma ∷ []
follows logic = some rparen ∷ some ']' ∷ some rbrace ∷ some comma ∷ []
follows and-more = some rparen ∷ some ']' ∷ some rbrace ∷ some comma ∷ []
follows or-more = some rparen ∷ some ']' ∷ some rbrace ∷ some comma ∷ []
follows nonassoc = some 'fof' ∷ some other_word ∷ some single-q ∷ some upper-word ∷ some distinct ∷ some '$fof' ∷ some '$cnf' ∷ some '$fot' ∷ some other-dollar ∷ some ddollar ∷ some integer ∷ some rational ∷ some real ∷ some lparen ∷ some '!' ∷ some '?' ∷ some '~' ∷ []
follows unit = some rparen ∷ some ']' ∷ some rbrace ∷ some comma ∷ some '&' ∷ some '|' ∷ some '=>' ∷ some '<=' ∷ some '<=>' ∷ some '<~>' ∷ some '~|' ∷ some '~&' ∷ []
follows quantifier = some '[' ∷ []
follows variable = some rparen ∷ some ']' ∷ some rbrace ∷ some comma ∷ some '&' ∷ some '|' ∷ some '=' ∷ some '!=' ∷ some '=>' ∷ some '<=' ∷ some '<=>' ∷ some '<~>' ∷ some '~|' ∷ some '~&' ∷ []
follows variables = some ']' ∷ []
follows sequent = some rparen ∷ some comma ∷ []
follows tuple = some rparen ∷ some comma ∷ some '-->' ∷ []
follows logics = some ']' ∷ some rbrace ∷ []
follows logic-more = some ']' ∷ some rbrace ∷ []
follows term = some rparen ∷ some ']' ∷ some rbrace ∷ some comma ∷ some '&' ∷ some '|' ∷ some '=>' ∷ some '<=' ∷ some '<=>' ∷ some '<~>' ∷ some '~|' ∷ some '~&' ∷ []
follows plain-term = some rparen ∷ some ']' ∷ some rbrace ∷ some comma ∷ some '&' ∷ some '|' ∷ some '=' ∷ some '!=' ∷ some '=>' ∷ some '<=' ∷ some '<=>' ∷ some '<~>' ∷ some '~|' ∷ some '~&' ∷ []
follows defined-term = some rparen ∷ some ']' ∷ some rbrace ∷ some comma ∷ some '&' ∷ some '|' ∷ some '=' ∷ some '!=' ∷ some '=>' ∷ some '<=' ∷ some '<=>' ∷ some '<~>' ∷ some '~|' ∷ some '~&' ∷ []
follows system-term = some rparen ∷ some ']' ∷ some rbrace ∷ some comma ∷ some '&' ∷ some '|' ∷ some '=' ∷ some '!=' ∷ some '=>' ∷ some '<=' ∷ some '<=>' ∷ some '<~>' ∷ some '~|' ∷ some '~&' ∷ []
follows arguments = some rparen ∷ some ']' ∷ some rbrace ∷ some comma ∷ some '&' ∷ some '|' ∷ some '=' ∷ some '!=' ∷ some '=>' ∷ some '<=' ∷ some '<=>' ∷ some '<~>' ∷ some '~|' ∷ some '~&' ∷ []
follows terms = some rparen ∷ []
follows number = some rparen ∷ some ']' ∷ some rbrace ∷ some comma ∷ some ':' ∷ some '&' ∷ some '|' ∷ some '=' ∷ some '!=' ∷ some '=>' ∷ some '<=' ∷ some '<=>' ∷ some '<~>' ∷ some '~|' ∷ some '~&' ∷ []
follows general-term = some rparen ∷ some ']' ∷ some comma ∷ []
follows general-data = some rparen ∷ some ']' ∷ some comma ∷ some ':' ∷ []
follows general-arguments = some rparen ∷ some ']' ∷ some comma ∷ some ':' ∷ []
follows general-terms = some rparen ∷ some ']' ∷ []
follows general-list = some rparen ∷ some ']' ∷ some comma ∷ []
follows general-members = some ']' ∷ []
follows cnf = some rparen ∷ []
follows literals = some rparen ∷ []
follows literal = some rparen ∷ some '|' ∷ []
follows atomic = some rparen ∷ some '|' ∷ []
follows lower_word = some lparen ∷ some rparen ∷ some ']' ∷ some rbrace ∷ some comma ∷ some ':' ∷ some '-' ∷ some '&' ∷ some '|' ∷ some '=' ∷ some '!=' ∷ some '=>' ∷ some '<=' ∷ some '<=>' ∷ some '<~>' ∷ some '~|' ∷ some '~&' ∷ []
follows dollar = some lparen ∷ some rparen ∷ some ']' ∷ some rbrace ∷ some comma ∷ some '&' ∷ some '|' ∷ some '=' ∷ some '!=' ∷ some '=>' ∷ some '<=' ∷ some '<=>' ∷ some '<~>' ∷ some '~|' ∷ some '~&' ∷ []
follows (aid role-end) = some comma ∷ []
follows (aid logic-end) = some rparen ∷ some ']' ∷ some rbrace ∷ some comma ∷ []
follows (aid equation) = some rparen ∷ some ']' ∷ some rbrace ∷ some comma ∷ some '&' ∷ some '|' ∷ some '=>' ∷ some '<=' ∷ some '<=>' ∷ some '<~>' ∷ some '~|' ∷ some '~&' ∷ []
follows (aid atom-end) = some rparen ∷ some ']' ∷ some rbrace ∷ some comma ∷ some '&' ∷ some '|' ∷ some '=>' ∷ some '<=' ∷ some '<=>' ∷ some '<~>' ∷ some '~|' ∷ some '~&' ∷ []
follows (aid general-end) = some rparen ∷ some ']' ∷ some comma ∷ []
follows (aid denied) = some rparen ∷ some '|' ∷ []
follows (aid equal-end) = some rparen ∷ some '|' ∷ []

-- what a name on top of the stack costs
abbrev pub cost : Name → ℕ
cost file = 13
cost line = 11
cost name = 3
cost role = 4
cost annotations = 13
cost second-part = 13
cost formula = 12
cost logic = 11
cost and-more = 13
cost or-more = 13
cost nonassoc = 2
cost unit = 9
cost quantifier = 2
cost variable = 2
cost variables = 13
cost sequent = 7
cost tuple = 4
cost logics = 13
cost logic-more = 13
cost term = 5
cost plain-term = 4
cost defined-term = 4
cost system-term = 3
cost arguments = 13
cost terms = 13
cost number = 2
cost general-term = 7
cost general-data = 5
cost general-arguments = 13
cost general-terms = 13
cost general-list = 4
cost general-members = 13
cost cnf = 8
cost literals = 13
cost literal = 6
cost atomic = 6
cost lower_word = 2
cost dollar = 2
cost (aid role-end) = 13
cost (aid logic-end) = 13
cost (aid equation) = 3
cost (aid atom-end) = 13
cost (aid general-end) = 13
cost (aid denied) = 7
cost (aid equal-end) = 13

abbrev pub decided : Grammar Terminal Name
decided = record {
  alternatives = choices;
  code = code;
  past = past;
  looks = looks;
  begins = λ v m. elim v [ true ↦ begins_past m | false ↦ begins m ];
  vanishes = λ v m. vanishes m;
  follows = follows;
  cost = cost;
  pay = 12;
}
