-- Small books with the answers that document 02 (One) and docs/DECISIONS.md give them, beside each the TPTP text that it is: axioms, conjectures, and whole books with their sizes.
use Rattle.std.specs.Prelude.{ℕ, zero, suc, List, [], ◌∷◌, ◌++◌, replicate}
use Prim.Native.String.{String}
use Rattle.std.proofs.Math.Option.{Option, none, some}
use Rattle.basics.specs.Choice.{◌>>=◌}
use Rattle.basics.specs.Text.{octets}
use Rattle.harrop.specs.Formula.{Name}
use Rattle.fof_truth.specs.Formula.{Term, Terms, Formula, Role, Line, grouped, nested}
use Rattle.fof_truth.specs.Book.{book_in, rules_file, goal_file, why_number, Outcome, book_of}

abbrev X : Name
X = octets "X"

abbrev Y : Name
Y = octets "Y"

abbrev x : Term
x = Term.var X

abbrev y : Term
y = Term.var Y

-- a function or a predicate of no arguments, of one, of two
abbrev f₀ : String → Term
f₀ g = Term.fun (octets g) Terms.nil

abbrev f₁ : String → Term → Term
f₁ g t = Term.fun (octets g) (Terms.cons t Terms.nil)

abbrev p₀ : String → Formula
p₀ p = Formula.atom (octets p) Terms.nil

abbrev p₁ : String → Term → Formula
p₁ p t = Formula.atom (octets p) (Terms.cons t Terms.nil)

abbrev p₂ : String → Term → Term → Formula
p₂ p t u = Formula.atom (octets p) (Terms.cons t (Terms.cons u Terms.nil))

abbrev p : Formula
p = p₀ "p"

abbrev q : Formula
q = p₀ "q"

abbrev r : Formula
r = p₀ "r"

abbrev fof : String → Role → Formula → Line
fof l o F = record { label = octets l; role = o; formula = F }

abbrev given : Formula → Line
given F = fof "a" Role.as_axiom F

abbrev asked : Formula → Line
asked F = fof "c" Role.as_conjecture F

-- the goal file of a book of one conjecture; the rules file of a book of one axiom
abbrev pub goal_text : Formula → Option (List ℕ)
goal_text F = book_in (asked F ∷ []) >>= λ b. some (goal_file b)

abbrev pub rules_text : Formula → Option (List ℕ)
rules_text F = book_in (given F ∷ asked Formula.true ∷ []) >>= λ b. some (rules_file b)

abbrev pub Row : Type 0
Row = Formula × Option (List ℕ)

abbrev is : String → Option (List ℕ)
is s = some (octets s)

unfoldable pub goals : List Row
goals =
    (Formula.true, is "(3:top)")  -- $true
    ∷ (p, is "(4:atom1:p)")  -- p
    ∷ (grouped Formula.and p (q ∷ r ∷ []), is "(3:and(3:and(4:atom1:p)(4:atom1:q))(4:atom1:r))")  -- p & q & r
    ∷ (grouped Formula.or p (q ∷ r ∷ []), is "(2:or(2:or(4:atom1:p)(4:atom1:q))(4:atom1:r))")  -- p | q | r
    ∷ (nested Formula.all (X ∷ Y ∷ []) (p₂ "p" x y), is "(3:all(3:all(4:atom1:p(1:v1:1)(1:v1:0))))")  -- ! [X,Y] : p(X,Y)
    ∷ (nested Formula.some (X ∷ X ∷ []) (p₁ "p" x), is "(4:some(4:some(4:atom1:p(1:v1:0))))")  -- ? [X,X] : p(X)
    ∷ (Formula.all X (Formula.and (Formula.some X (p₁ "p" x)) (p₁ "q" x)), is "(3:all(3:and(4:some(4:atom1:p(1:v1:0)))(4:atom1:q(1:v1:0))))")  -- ! [X] : ((? [X] : p(X)) & q(X))
    ∷ (Formula.all X (Formula.some Y (p₁ "p" x)), is "(3:all(4:some(4:atom1:p(1:v1:1))))")  -- ! [X] : ? [Y] : p(X)
    ∷ (Formula.all X p, is "(3:all(4:atom1:p))")  -- ! [X] : p
    ∷ (Formula.all (octets "Any_Name_1_of_more_than_thirty_two_octets") p, is "(3:all(4:atom1:p))")
    ∷ (Formula.implies p (Formula.some X (p₁ "q" x)), is "(3:imp(4:atom1:p)(4:some(4:atom1:q(1:v1:0))))")  -- p => ? [X] : q(X)
    ∷ (Formula.implies (Formula.all X (p₁ "p" x)) q, is "(3:imp(3:all(4:atom1:p(1:v1:0)))(4:atom1:q))")  -- ! [X] : p(X) => q
    ∷ (Formula.implies (Formula.all X (p₁ "p" x)) (p₁ "q" x), none)  -- ! [X] : p(X) => q(X): the last X is free
    ∷ (Formula.and (Formula.all X (p₁ "p" x)) (p₁ "q" x), none)  -- ! [X] : p(X) & q(X)
    ∷ (p₁ "p" x, none)  -- p(X)
    ∷ (Formula.implies p (Formula.implies q r), is "(3:imp(4:atom1:p)(3:imp(4:atom1:q)(4:atom1:r)))")  -- p => (q => r)
    ∷ (Formula.implies (Formula.implies p q) r, is "(3:imp(3:imp(4:atom1:p)(4:atom1:q))(4:atom1:r))")  -- (p => q) => r
    ∷ (Formula.implies (Formula.and p q) r, is "(3:imp(3:and(4:atom1:p)(4:atom1:q))(4:atom1:r))")  -- (p & q) => r
    ∷ (Formula.implies (Formula.or p q) r, none)  -- (p | q) => r
    ∷ (Formula.implies Formula.true r, none)  -- $true => r
    ∷ (Formula.implies (Formula.some X (p₁ "p" x)) r, none)  -- (? [X] : p(X)) => r
    ∷ (p₂ "p" (f₀ "p") (f₁ "p" (f₀ "p")), is "(4:atom1:p(1:f1:p)(1:f1:p(1:f1:p)))")  -- p(p,p(p))
    ∷ (p₁ "top" (f₀ "fof"), is "(4:atom3:top(1:f3:fof))")  -- top(fof)
    ∷ (p₀ "isShut", none)  -- is_shut
    ∷ (p₁ "p" (f₀ "isShut"), none)  -- p(is_shut)
    ∷ (p₀ "x0123456789012345678901234567890", is "(4:atom32:x0123456789012345678901234567890)")
    ∷ (p₀ "x01234567890123456789012345678901", none)
    ∷ []

unfoldable pub rules : List Row
rules =
    (p, is "(5:rules(4:atom1:p))")  -- p
    ∷ (Formula.implies p q, is "(5:rules(3:imp(4:atom1:p)(4:atom1:q)))")  -- p => q
    ∷ (Formula.all X (Formula.implies (p₁ "shut" x) (p₁ "dry" x)), is "(5:rules(3:all(3:imp(4:atom4:shut(1:v1:0))(4:atom3:dry(1:v1:0)))))")  -- ! [X] : (shut(X) => dry(X))
    ∷ (Formula.and p (Formula.all X (p₁ "q" x)), is "(5:rules(3:and(4:atom1:p)(3:all(4:atom1:q(1:v1:0)))))")  -- p & ! [X] : q(X)
    ∷ (Formula.implies Formula.true q, is "(5:rules(3:imp(3:top)(4:atom1:q)))")  -- $true => q
    ∷ (Formula.implies (Formula.all X (p₁ "q" x)) r, is "(5:rules(3:imp(3:all(4:atom1:q(1:v1:0)))(4:atom1:r)))")  -- ! [X] : q(X) => r
    ∷ (Formula.implies (Formula.or p q) r, is "(5:rules(3:imp(2:or(4:atom1:p)(4:atom1:q))(4:atom1:r)))")  -- (p | q) => r
    ∷ (Formula.true, none)  -- $true
    ∷ (Formula.and q Formula.true, none)  -- q & $true
    ∷ (Formula.or q r, none)  -- q | r
    ∷ (Formula.some X (p₁ "q" x), none)  -- ? [X] : q(X)
    ∷ (Formula.implies q (Formula.and r p), none)  -- q => (r & p)
    ∷ (Formula.implies q (Formula.implies r p), none)  -- q => (r => p)
    ∷ (Formula.implies q (Formula.all X (p₁ "r" x)), none)  -- q => ! [X] : r(X)
    ∷ (Formula.implies q Formula.true, none)  -- q => $true
    ∷ []

-- whole books: the lines, the lengths of the two buffers, and the answer
pub data Answer : Type 0 where
  files : List ℕ → List ℕ → Answer
  refusal : ℕ → Answer

abbrev answer : Outcome → Answer
answer (Outcome.written b) = Answer.files (rules_file b) (goal_file b)
answer (Outcome.refused w) = Answer.refusal (why_number w)

pub record Asked : Type 0 where
  pub lines : List Line
  pub first : ℕ
  pub second : ℕ

abbrev of : List Line → ℕ → ℕ → Asked
of ls a c = record { lines = ls; first = a; second = c }

-- with room enough
abbrev wide : List Line → Asked
wide ls = of ls 16384 16384

abbrev pub answer_to : Asked → Answer
answer_to k = answer (book_of k.lines k.first k.second)

abbrev text : String → String → Answer
text s t = Answer.files (octets s) (octets t)

-- F & F & .. & F, of one member more than n
abbrev many_and : ℕ → Formula
many_and n = grouped Formula.and p (replicate n p)

-- a term of n functions, one in the other
abbrev deep_term : ℕ → Term
deep_term zero = f₀ "a"
deep_term (suc n) = f₁ "s" (deep_term n)

unfoldable pub books : List (Asked × Answer)
books =
    (wide [], Answer.refusal 13)  -- no line
    ∷ (wide (given p ∷ []), Answer.refusal 13)  -- no conjecture
    ∷ (wide (asked p ∷ asked p ∷ []), Answer.refusal 13)  -- two
    ∷ (wide (asked p ∷ []), text "(5:rules)" "(4:atom1:p)")  -- no axiom
    ∷ (wide (given p ∷ asked q ∷ given r ∷ []), text "(5:rules(4:atom1:p)(4:atom1:r))" "(4:atom1:q)")  -- the conjecture between axioms, a label twice
    ∷ (wide (fof "fof" Role.as_axiom p ∷ fof "fof" Role.as_conjecture q ∷ []), text "(5:rules(4:atom1:p))" "(4:atom1:q)")
    ∷ (wide (fof "isShut" Role.as_axiom p ∷ asked q ∷ []), Answer.refusal 13)  -- a label that is no name
    ∷ (wide (fof "17" Role.as_axiom p ∷ asked q ∷ []), Answer.refusal 13)
    ∷ (wide (given p ∷ fof "x01234567890123456789012345678901" Role.as_conjecture q ∷ []), Answer.refusal 13)
    ∷ (of (given p ∷ asked q ∷ []) 20 11, text "(5:rules(4:atom1:p))" "(4:atom1:q)")
    ∷ (of (given p ∷ asked q ∷ []) 19 11, Answer.refusal 10)
    ∷ (of (given p ∷ asked q ∷ []) 20 10, Answer.refusal 10)
    ∷ (wide (replicate 257 (given p) ++ (asked q ∷ [])), Answer.refusal 6)
    ∷ (of (replicate 256 (given p) ++ (asked q ∷ [])) 0 0, Answer.refusal 10)
    ∷ (wide (replicate 257 (given p) ++ (given Formula.true ∷ asked q ∷ [])), Answer.refusal 13)  -- 13 before 6
    ∷ (wide (replicate 257 (given p) ++ (asked (many_and 64) ∷ [])), Answer.refusal 6)  -- 6 before 3
    ∷ (of (given (many_and 63) ∷ asked q ∷ []) 0 0, Answer.refusal 3)  -- an axiom of 64 members is at level 65 of the rules; 3 before 10
    ∷ (of (given (many_and 62) ∷ asked (many_and 63) ∷ []) 0 0, Answer.refusal 10)
    ∷ (of (asked (many_and 64) ∷ []) 0 0, Answer.refusal 3)
    ∷ (of (asked (p₁ "p" (deep_term 62)) ∷ []) 0 0, Answer.refusal 10)
    ∷ (of (asked (p₁ "p" (deep_term 63)) ∷ []) 0 0, Answer.refusal 3)
    ∷ []
