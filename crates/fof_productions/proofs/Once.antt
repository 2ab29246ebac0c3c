-- Tokens and names with the same number are the same.
use Prim.Native.Nat.{◌<◌}
use mathlib.Core.Path.{◌≡◌, refl, sym, ◌∙◌, ap}
use mathlib.Core.Bool.{Bool, true}
use mathlib.Core.Option.{none, some}
use native.Mathlib.Omega.{arith}
use lib.Dec.{ltb}
use borrow.Author.Tests.{ltb-true, ne_eqb}
use Rattle.basics.specs.Choice.{choose}
use Rattle.fof_productions.specs.Terminal.{Terminal, 'fof', other_word, single-q, upper-word, distinct, '$fof', '$cnf', '$fot', other-dollar, ddollar, integer, rational, real, lparen, rparen, '[', ']', lbrace, rbrace, comma, dot, ':', '-', '!', '?', '~', '&', '|', '=', '!=', '=>', '<=', '<=>', '<~>', '~|', '~&', '-->'}
use Rattle.fof_productions.specs.Terminal.{code}
use Rattle.fof_productions.specs.Name.{Name, aid, file, line, name, role, annotations, second-part, formula, logic, and-more, or-more, nonassoc, unit, quantifier, variable, variables, sequent, tuple, logics, logic-more, term, plain-term, defined-term, system-term, arguments, terms, number, general-term, general-data, general-arguments, general-terms, general-list, general-members, cnf, literals, literal, atomic, lower_word, dollar}
use Rattle.fof_productions.specs.Name.{role-end, logic-end, equation, atom-end, general-end, denied, equal-end}
use Rattle.fof_productions.specs.Name.{ordinal}
use Rattle.fof_productions.specs.Coded.{terminal_at, name_at, token_at}

pub code-back : (a : Terminal) → terminal_at (code a) ≡ a
unfolding terminal_at
code-back 'fof' = refl
code-back other_word = refl
code-back single-q = refl
code-back upper-word = refl
code-back distinct = refl
code-back '$fof' = refl
code-back '$cnf' = refl
code-back '$fot' = refl
code-back other-dollar = refl
code-back ddollar = refl
code-back integer = refl
code-back rational = refl
code-back real = refl
code-back lparen = refl
code-back rparen = refl
code-back '[' = refl
code-back ']' = refl
code-back lbrace = refl
code-back rbrace = refl
code-back comma = refl
code-back dot = refl
code-back ':' = refl
code-back '-' = refl
code-back '!' = refl
code-back '?' = refl
code-back '~' = refl
code-back '&' = refl
code-back '|' = refl
code-back '=' = refl
code-back '!=' = refl
code-back '=>' = refl
code-back '<=' = refl
code-back '<=>' = refl
code-back '<~>' = refl
code-back '~|' = refl
code-back '~&' = refl
code-back '-->' = refl

pub ordinal-back : (m : Name) → name_at (ordinal m) ≡ m
unfolding name_at
ordinal-back file = refl
ordinal-back line = refl
ordinal-back name = refl
ordinal-back role = refl
ordinal-back annotations = refl
ordinal-back second-part = refl
ordinal-back formula = refl
ordinal-back logic = refl
ordinal-back and-more = refl
ordinal-back or-more = refl
ordinal-back nonassoc = refl
ordinal-back unit = refl
ordinal-back quantifier = refl
ordinal-back variable = refl
ordinal-back variables = refl
ordinal-back sequent = refl
ordinal-back tuple = refl
ordinal-back logics = refl
ordinal-back logic-more = refl
ordinal-back term = refl
ordinal-back plain-term = refl
ordinal-back defined-term = refl
ordinal-back system-term = refl
ordinal-back arguments = refl
ordinal-back terms = refl
ordinal-back number = refl
ordinal-back general-term = refl
ordinal-back general-data = refl
ordinal-back general-arguments = refl
ordinal-back general-terms = refl
ordinal-back general-list = refl
ordinal-back general-members = refl
ordinal-back cnf = refl
ordinal-back literals = refl
ordinal-back literal = refl
ordinal-back atomic = refl
ordinal-back lower_word = refl
ordinal-back dollar = refl
ordinal-back (aid role-end) = refl
ordinal-back (aid logic-end) = refl
ordinal-back (aid equation) = refl
ordinal-back (aid atom-end) = refl
ordinal-back (aid general-end) = refl
ordinal-back (aid denied) = refl
ordinal-back (aid equal-end) = refl

-- a token has a number below 37, a name one below 45
below : (a : Terminal) → ltb (code a) 37 ≡ true
below 'fof' = refl
below other_word = refl
below single-q = refl
below upper-word = refl
below distinct = refl
below '$fof' = refl
below '$cnf' = refl
below '$fot' = refl
below other-dollar = refl
below ddollar = refl
below integer = refl
below rational = refl
below real = refl
below lparen = refl
below rparen = refl
below '[' = refl
below ']' = refl
below lbrace = refl
below rbrace = refl
below comma = refl
below dot = refl
below ':' = refl
below '-' = refl
below '!' = refl
below '?' = refl
below '~' = refl
below '&' = refl
below '|' = refl
below '=' = refl
below '!=' = refl
below '=>' = refl
below '<=' = refl
below '<=>' = refl
below '<~>' = refl
below '~|' = refl
below '~&' = refl
below '-->' = refl

named-below : (m : Name) → ltb (ordinal m) 45 ≡ true
named-below file = refl
named-below line = refl
named-below name = refl
named-below role = refl
named-below annotations = refl
named-below second-part = refl
named-below formula = refl
named-below logic = refl
named-below and-more = refl
named-below or-more = refl
named-below nonassoc = refl
named-below unit = refl
named-below quantifier = refl
named-below variable = refl
named-below variables = refl
named-below sequent = refl
named-below tuple = refl
named-below logics = refl
named-below logic-more = refl
named-below term = refl
named-below plain-term = refl
named-below defined-term = refl
named-below system-term = refl
named-below arguments = refl
named-below terms = refl
named-below number = refl
named-below general-term = refl
named-below general-data = refl
named-below general-arguments = refl
named-below general-terms = refl
named-below general-list = refl
named-below general-members = refl
named-below cnf = refl
named-below literals = refl
named-below literal = refl
named-below atomic = refl
named-below lower_word = refl
named-below dollar = refl
named-below (aid role-end) = refl
named-below (aid logic-end) = refl
named-below (aid equation) = refl
named-below (aid atom-end) = refl
named-below (aid general-end) = refl
named-below (aid denied) = refl
named-below (aid equal-end) = refl

pub code_below : (a : Terminal) → code a < 37
code_below a = ltb-true (code a) 37 (below a)

pub ordinal-below : (m : Name) → ordinal m < 45
ordinal-below m = ltb-true (ordinal m) 45 (named-below m)

pub token_back : (a : Terminal) → token_at (code a) ≡ some a
unfolding token_at
token_back a =
    let l = code_below a in
    ap (λ (b : Bool). choose b none (some (terminal_at (code a)))) (ne_eqb (code a) 37 (λ e. omega (arith, e))) ∙ ap some (code-back a)

pub code-once : (a b : Terminal) → code a ≡ code b → a ≡ b
code-once a b e = sym (code-back a) ∙ ap terminal_at e ∙ code-back b

pub ordinal-once : (m n : Name) → ordinal m ≡ ordinal n → m ≡ n
ordinal-once m n e = sym (ordinal-back m) ∙ ap name_at e ∙ ordinal-back n
