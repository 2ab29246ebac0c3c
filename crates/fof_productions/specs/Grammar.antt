-- TPTP's published grammar of `fof` lines (document 02, request One), production by production: the rules `::=` for <fof_annotated>, as docs/DECISIONS.md says which version is meant.
-- `the` is before a token, `any` before a name. `{ x }` and `[ x ]` of the grammar are names of their own: second-part, and-more, or-more, variables, logics, logic-more, arguments, terms, and so on.
-- Which texts have which tokens is crate fof_tokens. What is not here: lines in other languages of TPTP, and includes (refusal 12 counts them), and what the formulas mean.
use Rattle.std.specs.Prelude.{List, [], ◌∷◌}
use Rattle.grammar.specs.Derives.{Symbol, the, any}
use Rattle.fof_productions.specs.Terminal.{Terminal, 'fof', other_word, single-q, upper-word, distinct, '$fof', '$cnf', '$fot', other-dollar, ddollar, integer, rational, real, lparen, rparen, '[', ']', lbrace, rbrace, comma, dot, ':', '-', '!', '?', '~', '&', '|', '=', '!=', '=>', '<=', '<=>', '<~>', '~|', '~&', '-->'}
use Rattle.fof_productions.specs.Name.{Name, aid, file, line, name, role, annotations, second-part, formula, logic, and-more, or-more, nonassoc, unit, quantifier, variable, variables, sequent, tuple, logics, logic-more, term, plain-term, defined-term, system-term, arguments, terms, number, general-term, general-data, general-arguments, general-terms, general-list, general-members, cnf, literals, literal, atomic, lower_word, dollar}
use Rattle.fof_productions.specs.Aids.{aids}

abbrev pub productions : Name → List (List (Symbol Terminal Name))
-- 2. File and line
productions file =
    []
    ∷ (any line ∷ any file ∷ [])
    ∷ []
productions line = (the 'fof' ∷ the lparen ∷ any name ∷ the comma ∷ any role ∷ the comma ∷ any formula ∷ any annotations ∷ the rparen ∷ the dot ∷ []) ∷ []
productions name =
    (any lower_word ∷ [])
    ∷ (the single-q ∷ [])
    ∷ (the integer ∷ [])
    ∷ []
productions role =
    (any lower_word ∷ [])
    ∷ (any lower_word ∷ the '-' ∷ any general-term ∷ [])
    ∷ []
productions annotations =
    []
    ∷ (the comma ∷ any general-term ∷ any second-part ∷ [])
    ∷ []
productions second-part =
    []
    ∷ (the comma ∷ any general-list ∷ [])
    ∷ []
-- 3. Formulas
productions formula =
    (any logic ∷ [])
    ∷ (any sequent ∷ [])
    ∷ []
productions logic =
    (any unit ∷ [])
    ∷ (any unit ∷ any nonassoc ∷ any unit ∷ [])
    ∷ (any unit ∷ the '&' ∷ any unit ∷ any and-more ∷ [])
    ∷ (any unit ∷ the '|' ∷ any unit ∷ any or-more ∷ [])
    ∷ []
productions and-more =
    []
    ∷ (the '&' ∷ any unit ∷ any and-more ∷ [])
    ∷ []
productions or-more =
    []
    ∷ (the '|' ∷ any unit ∷ any or-more ∷ [])
    ∷ []
productions nonassoc =
    (the '<=>' ∷ [])
    ∷ (the '=>' ∷ [])
    ∷ (the '<=' ∷ [])
    ∷ (the '<~>' ∷ [])
    ∷ (the '~|' ∷ [])
    ∷ (the '~&' ∷ [])
    ∷ []
productions unit =
    (any quantifier ∷ the '[' ∷ any variable ∷ any variables ∷ the ']' ∷ the ':' ∷ any unit ∷ [])
    ∷ (the '~' ∷ any unit ∷ [])
    ∷ (any term ∷ the '!=' ∷ any term ∷ [])
    ∷ (any term ∷ the '=' ∷ any term ∷ [])
    ∷ (any plain-term ∷ [])
    ∷ (any defined-term ∷ [])
    ∷ (any system-term ∷ [])
    ∷ (the lparen ∷ any logic ∷ the rparen ∷ [])
    ∷ []
productions quantifier =
    (the '!' ∷ [])
    ∷ (the '?' ∷ [])
    ∷ []
productions variable = (the upper-word ∷ []) ∷ []
productions variables =
    []
    ∷ (the comma ∷ any variable ∷ any variables ∷ [])
    ∷ []
productions sequent =
    (any tuple ∷ the '-->' ∷ any tuple ∷ [])
    ∷ (the lparen ∷ any sequent ∷ the rparen ∷ [])
    ∷ []
productions tuple =
    (the '[' ∷ any logics ∷ the ']' ∷ [])
    ∷ (the lbrace ∷ any logics ∷ the rbrace ∷ [])
    ∷ []
productions logics =
    []
    ∷ (any logic ∷ any logic-more ∷ [])
    ∷ []
productions logic-more =
    []
    ∷ (the comma ∷ any logic ∷ any logic-more ∷ [])
    ∷ []
-- 4. Terms
productions term =
    (any variable ∷ [])
    ∷ (any plain-term ∷ [])
    ∷ (any defined-term ∷ [])
    ∷ (any system-term ∷ [])
    ∷ (any number ∷ [])
    ∷ (the distinct ∷ [])
    ∷ []
productions plain-term =
    (any lower_word ∷ any arguments ∷ [])
    ∷ (the single-q ∷ any arguments ∷ [])
    ∷ []
productions defined-term = (any dollar ∷ any arguments ∷ []) ∷ []
productions system-term = (the ddollar ∷ any arguments ∷ []) ∷ []
productions arguments =
    []
    ∷ (the lparen ∷ any term ∷ any terms ∷ the rparen ∷ [])
    ∷ []
productions terms =
    []
    ∷ (the comma ∷ any term ∷ any terms ∷ [])
    ∷ []
productions number =
    (the integer ∷ [])
    ∷ (the rational ∷ [])
    ∷ (the real ∷ [])
    ∷ []
-- 5. Annotations
productions general-term =
    (any general-data ∷ [])
    ∷ (any general-data ∷ the ':' ∷ any general-term ∷ [])
    ∷ (any general-list ∷ [])
    ∷ []
productions general-data =
    (any lower_word ∷ any general-arguments ∷ [])
    ∷ (the single-q ∷ any general-arguments ∷ [])
    ∷ (the upper-word ∷ [])
    ∷ (any number ∷ [])
    ∷ (the distinct ∷ [])
    ∷ (the '$fof' ∷ the lparen ∷ any formula ∷ the rparen ∷ [])
    ∷ (the '$cnf' ∷ the lparen ∷ any cnf ∷ the rparen ∷ [])
    ∷ (the '$fot' ∷ the lparen ∷ any term ∷ the rparen ∷ [])
    ∷ []
productions general-arguments =
    []
    ∷ (the lparen ∷ any general-term ∷ any general-terms ∷ the rparen ∷ [])
    ∷ []
productions general-terms =
    []
    ∷ (the comma ∷ any general-term ∷ any general-terms ∷ [])
    ∷ []
productions general-list = (the '[' ∷ any general-members ∷ the ']' ∷ []) ∷ []
productions general-members =
    []
    ∷ (any general-term ∷ any general-terms ∷ [])
    ∷ []
productions cnf =
    (any literal ∷ any literals ∷ [])
    ∷ (the lparen ∷ any cnf ∷ the rparen ∷ [])
    ∷ []
productions literals =
    []
    ∷ (the '|' ∷ any literal ∷ any literals ∷ [])
    ∷ []
productions literal =
    (any atomic ∷ [])
    ∷ (the '~' ∷ any atomic ∷ [])
    ∷ (the '~' ∷ the lparen ∷ any atomic ∷ the rparen ∷ [])
    ∷ (any term ∷ the '!=' ∷ any term ∷ [])
    ∷ []
productions atomic =
    (any plain-term ∷ [])
    ∷ (any defined-term ∷ [])
    ∷ (any system-term ∷ [])
    ∷ (any term ∷ the '=' ∷ any term ∷ [])
    ∷ []
-- words: those that the grammar names are words like any other
productions lower_word =
    (the 'fof' ∷ [])
    ∷ (the other_word ∷ [])
    ∷ []
productions dollar =
    (the '$fof' ∷ [])
    ∷ (the '$cnf' ∷ [])
    ∷ (the '$fot' ∷ [])
    ∷ (the other-dollar ∷ [])
    ∷ []
-- names that none of these productions has
productions (aid a) = aids a
