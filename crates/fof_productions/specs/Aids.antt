-- The productions of the names that only the machine uses: the end of a role, of a formula and so on, once its beginning is read.
use Rattle.std.specs.Prelude.{List, [], ◌∷◌}
use Rattle.grammar.specs.Derives.{Symbol, the, any}
use Rattle.fof_productions.specs.Terminal.{Terminal, lparen, rparen, ':', '-', '&', '|', '=', '!='}
use Rattle.fof_productions.specs.Name.{Name, and-more, or-more, nonassoc, unit, term, general-term, atomic}
use Rattle.fof_productions.specs.Name.{Aid, role-end, logic-end, equation, atom-end, general-end, denied, equal-end}

abbrev pub aids : Aid → List (List (Symbol Terminal Name))
aids role-end =
    []
    ∷ (the '-' ∷ any general-term ∷ [])
    ∷ []
aids logic-end =
    []
    ∷ (any nonassoc ∷ any unit ∷ [])
    ∷ (the '&' ∷ any unit ∷ any and-more ∷ [])
    ∷ (the '|' ∷ any unit ∷ any or-more ∷ [])
    ∷ []
aids equation =
    (the '!=' ∷ any term ∷ [])
    ∷ (the '=' ∷ any term ∷ [])
    ∷ []
aids atom-end =
    []
    ∷ (the '!=' ∷ any term ∷ [])
    ∷ (the '=' ∷ any term ∷ [])
    ∷ []
aids general-end =
    []
    ∷ (the ':' ∷ any general-term ∷ [])
    ∷ []
aids denied =
    (any atomic ∷ [])
    ∷ (the lparen ∷ any atomic ∷ the rparen ∷ [])
    ∷ []
aids equal-end =
    []
    ∷ (the '=' ∷ any term ∷ [])
    ∷ []
