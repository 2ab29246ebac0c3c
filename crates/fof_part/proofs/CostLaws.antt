-- What a due leaves is worth less than it and the signs that it took (`cost`, 6 for each sign), so the steps that a formula is given never run out: any two numbers of steps that are enough
-- give the same answer, whether there is one or not.
use Prim.Native.Nat.{ℕ, zero, suc, ◌+◌, ◌*◌, ◌≤◌, ◌<◌}
use mathlib.Core.Path.{◌≡◌, refl, sym, ◌∙◌, ap, subst}
use mathlib.Core.Bool.{Bool, true, false}
use mathlib.Core.List.{List, [], ◌∷◌, ◌++◌}
use mathlib.Core.Option.{Option, none, some}
use native.Mathlib.Omega.{arith}
use lib.Dec.{eqb}
use lib.ListN.{length}
use Rattle.basics.specs.Choice.{◌>>=◌, maybe, nope, provided}
use Rattle.basics.specs.Text.{octets}
use Rattle.harrop.specs.Formula.{Name}
use Rattle.sexp.specs.Decimal.{decimal}
use Rattle.sexp.specs.Words.{is_name}
use Rattle.fof_truth.specs.Numbered.{Scope, number_of}
use Rattle.fof_part.specs.Sign.{Sign, code, opens_code, closes_code, lists_code, ends_code, comma_code, colon_code, then_code}
use Rattle.fof_part.specs.Mark.{Mark}
use Rattle.fof_part.specs.Due.{Sort, Link, Quantifier, Due, Chain, chain, Did, did, by_chain, quantified, topped, unit_at, taking, link_code, variable_at, term_at, left, due_at, Ran, after, run, cost, costs, formula_at}
use Rattle.fof_part.proofs.RunLaws.{run_none, run_more}

-- what a step leaves is worth less than n
abbrev Pays : ℕ → Option Did → Type 0
Pays n none = Unit {0}
Pays n (some x) = costs x.dues + 6 * length x.rest < n

pays-some : (n : ℕ) (o : Option Did) (x : Did) → o ≡ some x → Pays n o → costs x.dues + 6 * length x.rest < n
pays-some n o x e h = subst (Pays n) e h

-- dues behind a sign that is taken
taking-pays : (c : ℕ) (ms : List Mark) (ds : List Due) (sc : Scope) (ss : List Sign) (n : ℕ) → costs ds < n + 6 → Pays (n + 6 * length ss) (taking c ss >>= λ r. did ms ds sc r)
taking-pays c ms ds sc [] n h = tt
taking-pays c ms ds sc (s ∷ ss) n h = go (eqb (code s) c)
  where
    go : (b : Bool) → Pays (n + 6 * suc (length ss)) (provided b (some ss) >>= λ r. did ms ds sc r)
    go true = omega arith
    go false = tt

-- or others, where it is not there
else-pays : (c : ℕ) (ms : List Mark) (ds : List Due) (sc : Scope) (ss : List Sign) (o : Option Did) (n : ℕ) → costs ds < n + 6 → Pays (n + 6 * length ss) o → Pays (n + 6 * length ss) (maybe (taking c ss) o λ r. did ms ds sc r)
else-pays c ms ds sc [] o n h k = k
else-pays c ms ds sc (s ∷ ss) o n h k = go (eqb (code s) c)
  where
    go : (b : Bool) → Pays (n + 6 * suc (length ss)) (maybe (provided b (some ss)) o λ r. did ms ds sc r)
    go true = omega arith
    go false = k

chain-pays : (s : Sort) (c : Chain) (sc : Scope) (ss : List Sign) → Pays (5 + 6 * length ss) (by_chain s c sc ss)
chain-pays Sort.goal Chain.lone sc ss = omega arith
chain-pays Sort.clause Chain.lone sc ss = omega arith
chain-pays Sort.head Chain.lone sc ss = omega arith
chain-pays Sort.goal (Chain.linked l n) sc ss = omega arith
chain-pays Sort.clause (Chain.linked Link.conj n) sc ss = omega arith
chain-pays Sort.clause (Chain.linked Link.disj n) sc ss = tt
chain-pays Sort.head (Chain.linked l n) sc ss = tt
chain-pays Sort.goal (Chain.implied n) sc ss = omega arith
chain-pays Sort.clause (Chain.implied n) sc ss = omega arith
chain-pays Sort.head (Chain.implied n) sc ss = tt

quantified-pays : (q : Quantifier) (s : Sort) (sc : Scope) (ss : List Sign) → Pays (1 + 6 * suc (length ss)) (quantified q s sc ss)
quantified-pays Quantifier.for_all Sort.goal sc ss = omega arith
quantified-pays Quantifier.exists Sort.goal sc ss = omega arith
quantified-pays Quantifier.for_all Sort.clause sc ss = omega arith
quantified-pays Quantifier.exists Sort.clause sc ss = tt
quantified-pays Quantifier.for_all Sort.head sc ss = tt
quantified-pays Quantifier.exists Sort.head sc ss = tt

topped-pays : (s : Sort) (sc : Scope) (ss : List Sign) → Pays (1 + 6 * suc (length ss)) (topped s sc ss)
topped-pays Sort.goal sc ss = omega arith
topped-pays Sort.clause sc ss = tt
topped-pays Sort.head sc ss = tt

provided-pays : (b : Bool) (n : ℕ) (x : Did) → costs x.dues + 6 * length x.rest < n → Pays n (provided b (some x))
provided-pays true n x h = h
provided-pays false n x h = tt

unit-pays : (s : Sort) (sc : Scope) (ss : List Sign) → Pays (1 + 6 * length ss) (unit_at s sc ss)
unit-pays s sc [] = tt
unit-pays s sc (Sign.lower w ∷ ss) = provided-pays (is_name w) (1 + 6 * suc (length ss)) (record { marks = Mark.begin ∷ Mark.string (octets "atom") ∷ Mark.string w ∷ []; dues = Due.arguments ∷ Due.shut ∷ []; scope = sc; rest = ss }) (omega arith)
unit-pays s sc (Sign.upper w ∷ ss) = tt
unit-pays s sc (Sign.truth ∷ ss) = topped-pays s sc ss
unit-pays s sc (Sign.opens ∷ ss) = omega arith
unit-pays s sc (Sign.closes ∷ ss) = tt
unit-pays s sc (Sign.lists ∷ ss) = tt
unit-pays s sc (Sign.ends ∷ ss) = tt
unit-pays s sc (Sign.comma ∷ ss) = tt
unit-pays s sc (Sign.colon ∷ ss) = tt
unit-pays s sc (Sign.dot ∷ ss) = tt
unit-pays s sc (Sign.every ∷ ss) = quantified-pays Quantifier.for_all s sc ss
unit-pays s sc (Sign.exist ∷ ss) = quantified-pays Quantifier.exists s sc ss
unit-pays s sc (Sign.both ∷ ss) = tt
unit-pays s sc (Sign.either ∷ ss) = tt
unit-pays s sc (Sign.then ∷ ss) = tt
unit-pays s sc (Sign.other ∷ ss) = tt

variable-pays : (q : Quantifier) (s : Sort) (sc : Scope) (ss : List Sign) → Pays (1 + 6 * length ss) (variable_at q s sc ss)
variable-pays q s sc [] = tt
variable-pays q s sc (Sign.upper x ∷ ss) = omega arith
variable-pays q s sc (Sign.lower w ∷ ss) = tt
variable-pays q s sc (Sign.truth ∷ ss) = tt
variable-pays q s sc (Sign.opens ∷ ss) = tt
variable-pays q s sc (Sign.closes ∷ ss) = tt
variable-pays q s sc (Sign.lists ∷ ss) = tt
variable-pays q s sc (Sign.ends ∷ ss) = tt
variable-pays q s sc (Sign.comma ∷ ss) = tt
variable-pays q s sc (Sign.colon ∷ ss) = tt
variable-pays q s sc (Sign.dot ∷ ss) = tt
variable-pays q s sc (Sign.every ∷ ss) = tt
variable-pays q s sc (Sign.exist ∷ ss) = tt
variable-pays q s sc (Sign.both ∷ ss) = tt
variable-pays q s sc (Sign.either ∷ ss) = tt
variable-pays q s sc (Sign.then ∷ ss) = tt
variable-pays q s sc (Sign.other ∷ ss) = tt

number-pays : (o : Option ℕ) (sc : Scope) (ss : List Sign) → Pays (1 + 6 * suc (length ss)) (o >>= λ i. did (Mark.begin ∷ Mark.string (octets "v") ∷ Mark.string (decimal i) ∷ Mark.end ∷ []) [] sc ss)
number-pays none sc ss = tt
number-pays (some i) sc ss = omega arith

term-pays : (sc : Scope) (ss : List Sign) → Pays (1 + 6 * length ss) (term_at sc ss)
term-pays sc [] = tt
term-pays sc (Sign.upper x ∷ ss) = number-pays (number_of sc x) sc ss
term-pays sc (Sign.lower w ∷ ss) = provided-pays (is_name w) (1 + 6 * suc (length ss)) (record { marks = Mark.begin ∷ Mark.string (octets "f") ∷ Mark.string w ∷ []; dues = Due.arguments ∷ Due.shut ∷ []; scope = sc; rest = ss }) (omega arith)
term-pays sc (Sign.truth ∷ ss) = tt
term-pays sc (Sign.opens ∷ ss) = tt
term-pays sc (Sign.closes ∷ ss) = tt
term-pays sc (Sign.lists ∷ ss) = tt
term-pays sc (Sign.ends ∷ ss) = tt
term-pays sc (Sign.comma ∷ ss) = tt
term-pays sc (Sign.colon ∷ ss) = tt
term-pays sc (Sign.dot ∷ ss) = tt
term-pays sc (Sign.every ∷ ss) = tt
term-pays sc (Sign.exist ∷ ss) = tt
term-pays sc (Sign.both ∷ ss) = tt
term-pays sc (Sign.either ∷ ss) = tt
term-pays sc (Sign.then ∷ ss) = tt
term-pays sc (Sign.other ∷ ss) = tt

due-pays : (d : Due) (sc : Scope) (ss : List Sign) → Pays (cost d + 6 * length ss) (due_at d sc ss)
unfolding due_at
due-pays (Due.formula s) sc ss = chain-pays s (chain 0 ss) sc ss
due-pays (Due.unit s) sc ss = unit-pays s sc ss
due-pays (Due.more l s zero) sc ss = omega arith
due-pays (Due.more l s (suc n)) sc ss = taking-pays (link_code l) [] (Due.unit s ∷ Due.shut ∷ Due.more l s n ∷ []) sc ss 1 (omega arith)
due-pays Due.arrow sc ss = taking-pays then_code [] [] sc ss 1 (omega arith)
due-pays Due.close sc ss = taking-pays closes_code [] [] sc ss 1 (omega arith)
due-pays (Due.list q s) sc ss = taking-pays lists_code [] (Due.variable q s ∷ []) sc ss 1 (omega arith)
due-pays (Due.variable q s) sc ss = variable-pays q s sc ss
due-pays (Due.behind q s) sc ss = else-pays comma_code [] (Due.variable q s ∷ []) sc ss (taking ends_code ss >>= λ r. did [] (Due.over s ∷ []) sc r) 1 (omega arith) (taking-pays ends_code [] (Due.over s ∷ []) sc ss 1 (omega arith))
due-pays (Due.over s) sc ss = taking-pays colon_code [] (Due.unit s ∷ []) sc ss 1 (omega arith)
due-pays Due.arguments sc ss = else-pays opens_code [] (Due.term ∷ Due.terms ∷ []) sc ss (did [] [] sc ss) 1 (omega arith) (omega arith)
due-pays Due.term sc ss = term-pays sc ss
due-pays Due.terms sc ss = else-pays comma_code [] (Due.term ∷ Due.terms ∷ []) sc ss (taking closes_code ss >>= λ r. did [] [] sc r) 1 (omega arith) (taking-pays closes_code [] [] sc ss 1 (omega arith))
due-pays Due.shut sc ss = omega arith
due-pays Due.leave sc ss = omega arith

-- a step pays for itself
pub step-pays : (d : Due) (sc : Scope) (ss : List Sign) (x : Did) → due_at d sc ss ≡ some x → costs x.dues + 6 * length x.rest < cost d + 6 * length ss
step-pays d sc ss x e = pays-some (cost d + 6 * length ss) (due_at d sc ss) x e (due-pays d sc ss)

pub costs-append : (xs ys : List Due) → costs (xs ++ ys) ≡ costs xs + costs ys
costs-append [] ys = omega arith
costs-append (x ∷ xs) ys = ap (λ a. cost x + a) (costs-append xs ys) ∙ omega arith

-- every due costs something
pub cost-some : (d : Due) → 1 ≤ cost d
cost-some (Due.formula s) = omega arith
cost-some (Due.unit s) = omega arith
cost-some (Due.more l s n) = omega arith
cost-some Due.arrow = omega arith
cost-some Due.close = omega arith
cost-some (Due.list q s) = omega arith
cost-some (Due.variable q s) = omega arith
cost-some (Due.behind q s) = omega arith
cost-some (Due.over s) = omega arith
cost-some Due.arguments = omega arith
cost-some Due.term = omega arith
cost-some Due.terms = omega arith
cost-some Due.shut = omega arith
cost-some Due.leave = omega arith

-- the steps that dues and signs are worth
abbrev pub worth : List Due → List Sign → ℕ
worth ds ss = costs ds + 6 * length ss

step-alike : (f g : ℕ) (d : Due) (ds : List Due) (sc : Scope) (ss : List Sign) → ((x : Did) → due_at d sc ss ≡ some x → run f (x.dues ++ ds) x.scope x.rest ≡ run g (x.dues ++ ds) x.scope x.rest) → run (suc f) (d ∷ ds) sc ss ≡ run (suc g) (d ∷ ds) sc ss
unfolding run
step-alike f g d ds sc ss h = go (due_at d sc ss) refl
  where
    go : (o : Option Did) → due_at d sc ss ≡ o → (o >>= λ x. run f (x.dues ++ ds) x.scope x.rest >>= λ r. some (after x.marks r)) ≡ (o >>= λ x. run g (x.dues ++ ds) x.scope x.rest >>= λ r. some (after x.marks r))
    go none e = refl
    go (some x) e = ap (λ (p : Option Ran). p >>= λ r. some (after x.marks r)) (h x e)

less-left : (d : Due) (ds : List Due) (sc : Scope) (ss : List Sign) (x : Did) (f : ℕ) → due_at d sc ss ≡ some x → worth (d ∷ ds) ss ≤ suc f → worth (x.dues ++ ds) x.rest ≤ f
less-left d ds sc ss x f e l =
    let p = step-pays d sc ss x e in
    let q = costs-append x.dues ds in
    omega arith

-- enough steps answer as any more do
pub run-enough : (f g : ℕ) (ds : List Due) (sc : Scope) (ss : List Sign) → worth ds ss ≤ f → f ≤ g → run f ds sc ss ≡ run g ds sc ss
run-enough zero g [] sc ss l m = run_none zero sc ss ∙ sym (run_none g sc ss)
run-enough zero g (d ∷ ds) sc ss l m =
    let c = cost-some d in
    absurd (omega arith)
run-enough (suc f) g [] sc ss l m = run_none (suc f) sc ss ∙ sym (run_none g sc ss)
run-enough (suc f) zero (d ∷ ds) sc ss l m = absurd (omega arith)
run-enough (suc f) (suc g) (d ∷ ds) sc ss l m = step-alike f g d ds sc ss λ x e. run-enough f g (x.dues ++ ds) x.scope x.rest (less-left d ds sc ss x f e l) (omega arith)

-- so whatever steps an answer took, a formula has as many as it needs
pub formula-enough : (f : ℕ) (s : Sort) (ss : List Sign) (r : Ran) → run f (Due.formula s ∷ []) [] ss ≡ some r → formula_at s ss ≡ some r
unfolding formula_at
formula-enough f s ss r e =
    let n = 5 + 6 * length ss in
    run-enough n (f + n) (Due.formula s ∷ []) [] ss (omega arith) (omega arith) ∙ run_more f (f + n) (Due.formula s ∷ []) [] ss r (omega arith) e

-- and where it has none, no number of steps gives one
pub formula-never : (s : Sort) (ss : List Sign) → formula_at s ss ≡ none → (f : ℕ) (r : Ran) → run f (Due.formula s ∷ []) [] ss ≡ some r → ⊥
formula-never s ss e f r h = nope (sym e ∙ formula-enough f s ss r h)
