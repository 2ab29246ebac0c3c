-- A machine that reads a formula of the part from left to right and writes the goal or the clause that it is: a stack of what is due, and for each due what it does with the sign ahead.
-- A chain's connective stands behind its first member and the heads that it becomes before it, so the signs are looked over as far as the formula goes: `chain`. The work is bounded by `cost`.
-- That it writes exactly what crate fof_truth says, and that it fails exactly on what is spelt outside the part, is shown in proofs/.
use Rattle.std.specs.Prelude.{ℕ, zero, suc, ◌+◌, ◌*◌, Bool, true, false, List, [], ◌∷◌, ◌++◌, eqb, length}
use Rattle.std.proofs.Math.Option.{Option, none, some}
use Rattle.basics.specs.Choice.{choose, ◌>>=◌, maybe, provided}
use Rattle.basics.specs.Text.{octets}
use Rattle.harrop.specs.Formula.{Name}
use Rattle.sexp.specs.Decimal.{decimal}
use Rattle.sexp.specs.Words.{is_name}
use Rattle.fof_truth.specs.Numbered.{Scope, number_of}
use Rattle.fof_part.specs.Sign.{Sign, code, opens_code, closes_code, lists_code, ends_code, comma_code, colon_code, both_code, either_code, then_code}
use Rattle.fof_part.specs.Mark.{Mark}

-- what a formula has to be: a goal, a clause, or the atom at the head of an implication
pub data Sort : Type 0 where
  goal : Sort
  clause : Sort
  head : Sort

-- a chain of `&` or of `|`
pub data Link : Type 0 where
  conj : Link
  disj : Link

pub data Quantifier : Type 0 where
  for_all : Quantifier
  exists : Quantifier

pub data Due : Type 0 where
  formula : Sort → Due
  unit : Sort → Due
  more : Link → Sort → ℕ → Due  -- so many further members of a chain
  arrow : Due  -- =>
  close : Due  -- )
  list : Quantifier → Sort → Due  -- [ and a variable list
  variable : Quantifier → Sort → Due  -- a variable of the list
  behind : Quantifier → Sort → Due  -- what stands behind a variable of the list
  over : Sort → Due  -- : and the unit that a quantifier takes
  arguments : Due  -- arguments, if there are any
  term : Due
  terms : Due  -- what stands behind a term
  shut : Due  -- the end of a list is written
  leave : Due  -- the same, and the nearest variable is no longer bound

-- the words of the lists that are written
abbrev pub link_word : Link → List ℕ
link_word Link.conj = octets "and"
link_word Link.disj = octets "or"

abbrev pub quantifier_word : Quantifier → List ℕ
quantifier_word Quantifier.for_all = octets "all"
quantifier_word Quantifier.exists = octets "some"

abbrev pub headed : List ℕ → List Mark
headed w = Mark.begin ∷ Mark.string w ∷ []

abbrev pub many_headed : List ℕ → ℕ → List Mark
many_headed w zero = []
many_headed w (suc n) = headed w ++ many_headed w n

-- the first connective of the formula ahead, and how many there are; `d` brackets are open. The formula ends before a comma or a bracket that none of its own opened
pub data Chain : Type 0 where
  lone : Chain
  linked : Link → ℕ → Chain
  implied : ℕ → Chain

abbrev pub number_in : Chain → ℕ
number_in Chain.lone = 0
number_in (Chain.linked l n) = n
number_in (Chain.implied n) = n

abbrev pub chain : ℕ → List Sign → Chain
chain d [] = Chain.lone
chain d (Sign.lower w ∷ ss) = chain d ss
chain d (Sign.upper w ∷ ss) = chain d ss
chain d (Sign.truth ∷ ss) = chain d ss
chain d (Sign.opens ∷ ss) = chain (suc d) ss
chain zero (Sign.closes ∷ ss) = Chain.lone
chain (suc d) (Sign.closes ∷ ss) = chain d ss
chain d (Sign.lists ∷ ss) = chain (suc d) ss
chain zero (Sign.ends ∷ ss) = Chain.lone
chain (suc d) (Sign.ends ∷ ss) = chain d ss
chain zero (Sign.comma ∷ ss) = Chain.lone
chain (suc d) (Sign.comma ∷ ss) = chain (suc d) ss
chain d (Sign.colon ∷ ss) = chain d ss
chain d (Sign.dot ∷ ss) = chain d ss
chain d (Sign.every ∷ ss) = chain d ss
chain d (Sign.exist ∷ ss) = chain d ss
chain zero (Sign.both ∷ ss) = Chain.linked Link.conj (suc (number_in (chain zero ss)))
chain (suc d) (Sign.both ∷ ss) = chain (suc d) ss
chain zero (Sign.either ∷ ss) = Chain.linked Link.disj (suc (number_in (chain zero ss)))
chain (suc d) (Sign.either ∷ ss) = chain (suc d) ss
chain zero (Sign.then ∷ ss) = Chain.implied (suc (number_in (chain zero ss)))
chain (suc d) (Sign.then ∷ ss) = chain (suc d) ss
chain d (Sign.other ∷ ss) = chain d ss

-- what one due does: the marks that it writes, what is due then, the variables bound then, and the signs left
pub record Did : Type 0 where
  pub marks : List Mark
  pub dues : List Due
  pub scope : Scope
  pub rest : List Sign

abbrev pub did : List Mark → List Due → Scope → List Sign → Option Did
did ms ds sc ss = some (record { marks = ms; dues = ds; scope = sc; rest = ss })

-- a formula, by its chain
abbrev pub by_chain : Sort → Chain → Scope → List Sign → Option Did
by_chain s Chain.lone sc ss = did [] (Due.unit s ∷ []) sc ss
by_chain Sort.goal (Chain.linked l n) sc ss = did (many_headed (link_word l) n) (Due.unit Sort.goal ∷ Due.more l Sort.goal n ∷ []) sc ss
by_chain Sort.clause (Chain.linked Link.conj n) sc ss = did (many_headed (octets "and") n) (Due.unit Sort.clause ∷ Due.more Link.conj Sort.clause n ∷ []) sc ss
by_chain Sort.clause (Chain.linked Link.disj n) sc ss = none
by_chain Sort.head (Chain.linked l n) sc ss = none
by_chain Sort.goal (Chain.implied n) sc ss = did (headed (octets "imp")) (Due.unit Sort.clause ∷ Due.arrow ∷ Due.unit Sort.goal ∷ Due.shut ∷ []) sc ss
by_chain Sort.clause (Chain.implied n) sc ss = did (headed (octets "imp")) (Due.unit Sort.goal ∷ Due.arrow ∷ Due.unit Sort.head ∷ Due.shut ∷ []) sc ss
by_chain Sort.head (Chain.implied n) sc ss = none

-- a quantifier where a formula of a sort is due
abbrev pub quantified : Quantifier → Sort → Scope → List Sign → Option Did
quantified q Sort.goal sc ss = did [] (Due.list q Sort.goal ∷ []) sc ss
quantified Quantifier.for_all Sort.clause sc ss = did [] (Due.list Quantifier.for_all Sort.clause ∷ []) sc ss
quantified Quantifier.exists Sort.clause sc ss = none
quantified q Sort.head sc ss = none

abbrev pub topped : Sort → Scope → List Sign → Option Did
topped Sort.goal sc ss = did (headed (octets "top") ++ (Mark.end ∷ [])) [] sc ss
topped Sort.clause sc ss = none
topped Sort.head sc ss = none

abbrev pub unit_at : Sort → Scope → List Sign → Option Did
unit_at s sc [] = none
unit_at s sc (Sign.lower w ∷ ss) = provided (is_name w) (did (headed (octets "atom") ++ (Mark.string w ∷ [])) (Due.arguments ∷ Due.shut ∷ []) sc ss)
unit_at s sc (Sign.upper w ∷ ss) = none
unit_at s sc (Sign.truth ∷ ss) = topped s sc ss
unit_at s sc (Sign.opens ∷ ss) = did [] (Due.formula s ∷ Due.close ∷ []) sc ss
unit_at s sc (Sign.closes ∷ ss) = none
unit_at s sc (Sign.lists ∷ ss) = none
unit_at s sc (Sign.ends ∷ ss) = none
unit_at s sc (Sign.comma ∷ ss) = none
unit_at s sc (Sign.colon ∷ ss) = none
unit_at s sc (Sign.dot ∷ ss) = none
unit_at s sc (Sign.every ∷ ss) = quantified Quantifier.for_all s sc ss
unit_at s sc (Sign.exist ∷ ss) = quantified Quantifier.exists s sc ss
unit_at s sc (Sign.both ∷ ss) = none
unit_at s sc (Sign.either ∷ ss) = none
unit_at s sc (Sign.then ∷ ss) = none
unit_at s sc (Sign.other ∷ ss) = none

-- a sign that is expected, by its number
abbrev pub taking : ℕ → List Sign → Option (List Sign)
taking c [] = none
taking c (s ∷ ss) = provided (eqb (code s) c) (some ss)

abbrev pub link_code : Link → ℕ
link_code Link.conj = both_code
link_code Link.disj = either_code

-- a variable of a list: it is bound from here on, until its list is ended
abbrev pub variable_at : Quantifier → Sort → Scope → List Sign → Option Did
variable_at q s sc [] = none
variable_at q s sc (Sign.upper x ∷ ss) = did (headed (quantifier_word q)) (Due.behind q s ∷ Due.leave ∷ []) (x ∷ sc) ss
variable_at q s sc (Sign.lower w ∷ ss) = none
variable_at q s sc (Sign.truth ∷ ss) = none
variable_at q s sc (Sign.opens ∷ ss) = none
variable_at q s sc (Sign.closes ∷ ss) = none
variable_at q s sc (Sign.lists ∷ ss) = none
variable_at q s sc (Sign.ends ∷ ss) = none
variable_at q s sc (Sign.comma ∷ ss) = none
variable_at q s sc (Sign.colon ∷ ss) = none
variable_at q s sc (Sign.dot ∷ ss) = none
variable_at q s sc (Sign.every ∷ ss) = none
variable_at q s sc (Sign.exist ∷ ss) = none
variable_at q s sc (Sign.both ∷ ss) = none
variable_at q s sc (Sign.either ∷ ss) = none
variable_at q s sc (Sign.then ∷ ss) = none
variable_at q s sc (Sign.other ∷ ss) = none

-- behind a variable: a comma and another, or the end of the list
abbrev pub behind_at : Quantifier → Sort → Scope → List Sign → Option Did
behind_at q s sc ss =
    maybe (taking comma_code ss) (taking ends_code ss >>= λ r. did [] (Due.over s ∷ []) sc r) λ r. did [] (Due.variable q s ∷ []) sc r

-- arguments, if an opening parenthesis is ahead
abbrev pub arguments_at : Scope → List Sign → Option Did
arguments_at sc ss = maybe (taking opens_code ss) (did [] [] sc ss) λ r. did [] (Due.term ∷ Due.terms ∷ []) sc r

abbrev pub terms_at : Scope → List Sign → Option Did
terms_at sc ss = maybe (taking comma_code ss) (taking closes_code ss >>= λ r. did [] [] sc r) λ r. did [] (Due.term ∷ Due.terms ∷ []) sc r

-- a term: a variable by its number, if it is bound; a function by its name
abbrev pub term_at : Scope → List Sign → Option Did
term_at sc [] = none
term_at sc (Sign.upper x ∷ ss) = number_of sc x >>= λ i. did (headed (octets "v") ++ (Mark.string (decimal i) ∷ Mark.end ∷ [])) [] sc ss
term_at sc (Sign.lower w ∷ ss) = provided (is_name w) (did (headed (octets "f") ++ (Mark.string w ∷ [])) (Due.arguments ∷ Due.shut ∷ []) sc ss)
term_at sc (Sign.truth ∷ ss) = none
term_at sc (Sign.opens ∷ ss) = none
term_at sc (Sign.closes ∷ ss) = none
term_at sc (Sign.lists ∷ ss) = none
term_at sc (Sign.ends ∷ ss) = none
term_at sc (Sign.comma ∷ ss) = none
term_at sc (Sign.colon ∷ ss) = none
term_at sc (Sign.dot ∷ ss) = none
term_at sc (Sign.every ∷ ss) = none
term_at sc (Sign.exist ∷ ss) = none
term_at sc (Sign.both ∷ ss) = none
term_at sc (Sign.either ∷ ss) = none
term_at sc (Sign.then ∷ ss) = none
term_at sc (Sign.other ∷ ss) = none

-- the variables but the nearest
abbrev pub left : Scope → Scope
left [] = []
left (x ∷ sc) = sc

unfoldable pub due_at : Due → Scope → List Sign → Option Did
due_at (Due.formula s) sc ss = by_chain s (chain 0 ss) sc ss
due_at (Due.unit s) sc ss = unit_at s sc ss
due_at (Due.more l s zero) sc ss = did [] [] sc ss
due_at (Due.more l s (suc n)) sc ss = taking (link_code l) ss >>= λ r. did [] (Due.unit s ∷ Due.shut ∷ Due.more l s n ∷ []) sc r
due_at Due.arrow sc ss = taking then_code ss >>= λ r. did [] [] sc r
due_at Due.close sc ss = taking closes_code ss >>= λ r. did [] [] sc r
due_at (Due.list q s) sc ss = taking lists_code ss >>= λ r. did [] (Due.variable q s ∷ []) sc r
due_at (Due.variable q s) sc ss = variable_at q s sc ss
due_at (Due.behind q s) sc ss = behind_at q s sc ss
due_at (Due.over s) sc ss = taking colon_code ss >>= λ r. did [] (Due.unit s ∷ []) sc r
due_at Due.arguments sc ss = arguments_at sc ss
due_at Due.term sc ss = term_at sc ss
due_at Due.terms sc ss = terms_at sc ss
due_at Due.shut sc ss = did (Mark.end ∷ []) [] sc ss
due_at Due.leave sc ss = did (Mark.end ∷ []) [] (left sc) ss

-- what a stack of dues writes, and what is left of the signs; at most f dues are done
pub record Ran : Type 0 where
  pub marks : List Mark
  pub scope : Scope
  pub rest : List Sign

abbrev pub after : List Mark → Ran → Ran
after ms r = record { marks = ms ++ r.marks; scope = r.scope; rest = r.rest }

unfoldable pub run : ℕ → List Due → Scope → List Sign → Option Ran
run zero [] sc ss = some (record { marks = []; scope = sc; rest = ss })
run zero (d ∷ ds) sc ss = none
run (suc f) [] sc ss = some (record { marks = []; scope = sc; rest = ss })
run (suc f) (d ∷ ds) sc ss = due_at d sc ss >>= λ x. run f (x.dues ++ ds) x.scope x.rest >>= λ r. some (after x.marks r)

-- what a due costs, and what a sign pays: a due never leaves more than it and the signs that it took were worth
abbrev pub cost : Due → ℕ
cost (Due.formula s) = 5
cost (Due.unit s) = 1
cost (Due.more l s n) = 1
cost Due.arrow = 1
cost Due.close = 1
cost (Due.list q s) = 1
cost (Due.variable q s) = 1
cost (Due.behind q s) = 1
cost (Due.over s) = 1
cost Due.arguments = 1
cost Due.term = 1
cost Due.terms = 1
cost Due.shut = 1
cost Due.leave = 1

abbrev pub costs : List Due → ℕ
costs [] = 0
costs (d ∷ ds) = cost d + costs ds

-- a formula that has to be of a sort, with the steps that it can take at most
unfoldable pub formula_at : Sort → List Sign → Option Ran
formula_at s ss = run (5 + 6 * length ss) (Due.formula s ∷ []) [] ss
