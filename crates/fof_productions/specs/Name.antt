-- The names of TPTP's grammar of `fof` lines (document 02, request One), in its order. What may be repeated or left out has a name of its own here, after the name that needs it.
use Rattle.std.specs.Prelude.{ℕ}

-- names that no production of the grammar has; the machine uses them where a choice is put off until the token that decides it (specs/Decided)
pub data Aid : Type 0 where
  role-end : Aid
  logic-end : Aid
  equation : Aid
  atom-end : Aid
  general-end : Aid
  denied : Aid
  equal-end : Aid

pub data Name : Type 0 where
  file : Name
  line : Name
  name : Name
  role : Name
  annotations : Name
  second-part : Name
  formula : Name
  logic : Name
  and-more : Name
  or-more : Name
  nonassoc : Name
  unit : Name
  quantifier : Name
  variable : Name
  variables : Name
  sequent : Name
  tuple : Name
  logics : Name
  logic-more : Name
  term : Name
  plain-term : Name
  defined-term : Name
  system-term : Name
  arguments : Name
  terms : Name
  number : Name
  general-term : Name
  general-data : Name
  general-arguments : Name
  general-terms : Name
  general-list : Name
  general-members : Name
  cnf : Name
  literals : Name
  literal : Name
  atomic : Name
  lower_word : Name
  dollar : Name
  aid : Aid → Name

-- a number for each, to compare them by
abbrev pub ordinal : Name → ℕ
ordinal file = 0
ordinal line = 1
ordinal name = 2
ordinal role = 3
ordinal annotations = 4
ordinal second-part = 5
ordinal formula = 6
ordinal logic = 7
ordinal and-more = 8
ordinal or-more = 9
ordinal nonassoc = 10
ordinal unit = 11
ordinal quantifier = 12
ordinal variable = 13
ordinal variables = 14
ordinal sequent = 15
ordinal tuple = 16
ordinal logics = 17
ordinal logic-more = 18
ordinal term = 19
ordinal plain-term = 20
ordinal defined-term = 21
ordinal system-term = 22
ordinal arguments = 23
ordinal terms = 24
ordinal number = 25
ordinal general-term = 26
ordinal general-data = 27
ordinal general-arguments = 28
ordinal general-terms = 29
ordinal general-list = 30
ordinal general-members = 31
ordinal cnf = 32
ordinal literals = 33
ordinal literal = 34
ordinal atomic = 35
ordinal lower_word = 36
ordinal dollar = 37
ordinal (aid role-end) = 38
ordinal (aid logic-end) = 39
ordinal (aid equation) = 40
ordinal (aid atom-end) = 41
ordinal (aid general-end) = 42
ordinal (aid denied) = 43
ordinal (aid equal-end) = 44
