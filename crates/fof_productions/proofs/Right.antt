-- The sets of specs/Decided are right, and the token ahead decides every choice: one test for each name, computed.
use mathlib.Core.Path.{◌≡◌, refl}
use mathlib.Core.Bool.{true}
use Rattle.grammar.specs.Machine.{right}
use Rattle.fof_productions.specs.Name.{Name, aid, file, line, name, role, annotations, second-part, formula, logic, and-more, or-more, nonassoc, unit, quantifier, variable, variables, sequent, tuple, logics, logic-more, term, plain-term, defined-term, system-term, arguments, terms, number, general-term, general-data, general-arguments, general-terms, general-list, general-members, cnf, literals, literal, atomic, lower_word, dollar}
use Rattle.fof_productions.specs.Name.{role-end, logic-end, equation, atom-end, general-end, denied, equal-end}
use Rattle.fof_productions.specs.Decided.{decided}

pub rightly : (m : Name) → right decided m ≡ true
rightly file = refl
rightly line = refl
rightly name = refl
rightly role = refl
rightly annotations = refl
rightly second-part = refl
rightly formula = refl
rightly logic = refl
rightly and-more = refl
rightly or-more = refl
rightly nonassoc = refl
rightly unit = refl
rightly quantifier = refl
rightly variable = refl
rightly variables = refl
rightly sequent = refl
rightly tuple = refl
rightly logics = refl
rightly logic-more = refl
rightly term = refl
rightly plain-term = refl
rightly defined-term = refl
rightly system-term = refl
rightly arguments = refl
rightly terms = refl
rightly number = refl
rightly general-term = refl
rightly general-data = refl
rightly general-arguments = refl
rightly general-terms = refl
rightly general-list = refl
rightly general-members = refl
rightly cnf = refl
rightly literals = refl
rightly literal = refl
rightly atomic = refl
rightly lower_word = refl
rightly dollar = refl
rightly (aid role-end) = refl
rightly (aid logic-end) = refl
rightly (aid equation) = refl
rightly (aid atom-end) = refl
rightly (aid general-end) = refl
rightly (aid denied) = refl
rightly (aid equal-end) = refl
