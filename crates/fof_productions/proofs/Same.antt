-- The grammar and the one that the machine reads by derive the same: each production of one is a way to derive its name in the other, by a computed search.
use mathlib.Core.Path.{◌≡◌, refl}
use mathlib.Core.Bool.{Bool, true, false}
use mathlib.Core.List.{List}
use Rattle.basics.specs.Tells.{Tells, tells_as}
use Rattle.grammar.specs.Derives.{Symbol, Derives}
use Rattle.grammar.specs.Recast.{all_of, covers}
use Rattle.grammar.proofs.Recast.{recast}
use Rattle.fof_productions.specs.Terminal.{Terminal, code}
use Rattle.fof_productions.specs.Name.{Name, aid, file, line, name, role, annotations, second-part, formula, logic, and-more, or-more, nonassoc, unit, quantifier, variable, variables, sequent, tuple, logics, logic-more, term, plain-term, defined-term, system-term, arguments, terms, number, general-term, general-data, general-arguments, general-terms, general-list, general-members, cnf, literals, literal, atomic, lower_word, dollar}
use Rattle.fof_productions.specs.Name.{role-end, logic-end, equation, atom-end, general-end, denied, equal-end}
use Rattle.fof_productions.specs.Name.{ordinal}
use Rattle.fof_productions.specs.Grammar.{productions}
use Rattle.fof_productions.specs.Decided.{choices}
use Rattle.fof_productions.proofs.Once.{code-once, ordinal-once}

-- the names that are looked into: those that the machine adds, and on the way back those that it does without
abbrev added : Name → Bool
added file = false
added line = false
added name = false
added role = false
added annotations = false
added second-part = false
added formula = false
added logic = false
added and-more = false
added or-more = false
added nonassoc = false
added unit = false
added quantifier = false
added variable = false
added variables = false
added sequent = false
added tuple = false
added logics = false
added logic-more = false
added term = false
added plain-term = false
added defined-term = false
added system-term = false
added arguments = false
added terms = false
added number = false
added general-term = false
added general-data = false
added general-arguments = false
added general-terms = false
added general-list = false
added general-members = false
added cnf = false
added literals = false
added literal = false
added atomic = false
added lower_word = false
added dollar = false
added (aid a) = true

abbrev replaced : Name → Bool
replaced file = false
replaced line = false
replaced name = false
replaced role = false
replaced annotations = false
replaced second-part = false
replaced formula = false
replaced logic = false
replaced and-more = false
replaced or-more = false
replaced nonassoc = false
replaced unit = false
replaced quantifier = false
replaced variable = false
replaced variables = false
replaced sequent = false
replaced tuple = false
replaced logics = false
replaced logic-more = false
replaced term = true
replaced plain-term = false
replaced defined-term = false
replaced system-term = false
replaced arguments = false
replaced terms = false
replaced number = false
replaced general-term = false
replaced general-data = false
replaced general-arguments = false
replaced general-terms = false
replaced general-list = false
replaced general-members = false
replaced cnf = false
replaced literals = false
replaced literal = false
replaced atomic = true
replaced lower_word = false
replaced dollar = false
replaced (aid a) = true

there : (m : Name) → all_of (covers code ordinal productions added 16 m) (choices m) ≡ true
there file = refl
there line = refl
there name = refl
there role = refl
there annotations = refl
there second-part = refl
there formula = refl
there logic = refl
there and-more = refl
there or-more = refl
there nonassoc = refl
there unit = refl
there quantifier = refl
there variable = refl
there variables = refl
there sequent = refl
there tuple = refl
there logics = refl
there logic-more = refl
there term = refl
there plain-term = refl
there defined-term = refl
there system-term = refl
there arguments = refl
there terms = refl
there number = refl
there general-term = refl
there general-data = refl
there general-arguments = refl
there general-terms = refl
there general-list = refl
there general-members = refl
there cnf = refl
there literals = refl
there literal = refl
there atomic = refl
there lower_word = refl
there dollar = refl
there (aid role-end) = refl
there (aid logic-end) = refl
there (aid equation) = refl
there (aid atom-end) = refl
there (aid general-end) = refl
there (aid denied) = refl
there (aid equal-end) = refl

here : (m : Name) → all_of (covers code ordinal choices replaced 16 m) (productions m) ≡ true
here file = refl
here line = refl
here name = refl
here role = refl
here annotations = refl
here second-part = refl
here formula = refl
here logic = refl
here and-more = refl
here or-more = refl
here nonassoc = refl
here unit = refl
here quantifier = refl
here variable = refl
here variables = refl
here sequent = refl
here tuple = refl
here logics = refl
here logic-more = refl
here term = refl
here plain-term = refl
here defined-term = refl
here system-term = refl
here arguments = refl
here terms = refl
here number = refl
here general-term = refl
here general-data = refl
here general-arguments = refl
here general-terms = refl
here general-list = refl
here general-members = refl
here cnf = refl
here literals = refl
here literal = refl
here atomic = refl
here lower_word = refl
here dollar = refl
here (aid role-end) = refl
here (aid logic-end) = refl
here (aid equation) = refl
here (aid atom-end) = refl
here (aid general-end) = refl
here (aid denied) = refl
here (aid equal-end) = refl

pub as-decided : {ss : List (Symbol Terminal Name)} {w : List Terminal} → Derives productions ss w → Derives choices ss w
as-decided t = recast code ordinal code-once ordinal-once choices replaced 16 productions here t

pub as-published : {ss : List (Symbol Terminal Name)} {w : List Terminal} → Derives choices ss w → Derives productions ss w
as-published t = recast code ordinal code-once ordinal-once productions added 16 choices there t

pub tells-published : (r : Bool) (ss : List (Symbol Terminal Name)) (w : List Terminal) → Tells r (Derives choices ss w) → Tells r (Derives productions ss w)
tells-published r ss w h = tells_as r (λ t. as-published t) (λ t. as-decided t) h
