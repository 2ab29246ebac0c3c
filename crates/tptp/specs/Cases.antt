-- Small texts with the answers that document 02 (One) and docs/DECISIONS.md give them, and both buffers afterwards: before, each byte of a buffer is a star.
use Rattle.std.specs.Prelude.{ℕ, zero, suc, List, [], ◌∷◌, ◌++◌, replicate}
use Prim.Native.String.{String}
use Rattle.basics.specs.Text.{octets}
use Rattle.tptp.specs.Converted.{Converted}
use Rattle.tptp.specs.Converted as converted
use Rattle.tptp.specs.Comes.{Comes, comes_to, answered, rules_after, goal_after}

-- a text and the lengths of the two buffers
pub record Asked : Type 0 where
  pub text : List ℕ
  pub first : ℕ
  pub second : ℕ

-- an answer, and what the two buffers hold
pub record Answer : Type 0 where
  pub answer : Converted
  pub rules : List ℕ
  pub goal : List ℕ

abbrev pub Row : Type 0
Row = Asked × Answer

abbrev stars : ℕ → List ℕ
stars n = replicate n 42

abbrev leaves : Comes → ℕ → ℕ → Answer
leaves x a c = record { answer = answered x; rules = rules_after x (stars a); goal = goal_after x (stars c) }

abbrev pub answer_to : Asked → Answer
answer_to k = leaves (comes_to k.text k.first k.second) k.first k.second

-- a text that is written, with buffers of these lengths
abbrev writes : String → ℕ → ℕ → ℕ → String → ℕ → String → Row
writes t a c x rs y g = (record { text = octets t; first = a; second = c }, record { answer = converted.written x y; rules = octets rs; goal = octets g })

-- a text that is refused, with buffers of these lengths
abbrev refuses_all : List ℕ → ℕ → ℕ → ℕ → Row
refuses_all t a c n = (record { text = t; first = a; second = c }, record { answer = converted.refused n 1 0; rules = stars a; goal = stars c })

abbrev refuses : String → ℕ → Row
refuses t n = refuses_all (octets t) 100 100 n

-- a text many times
abbrev times : ℕ → List ℕ → List ℕ
times zero t = []
times (suc n) t = t ++ times n t

unfoldable pub texts : List Row
texts =
    writes "fof(a,axiom,p). fof(c,conjecture,q)." 23 12 20 "(5:rules(4:atom1:p))***" 11 "(4:atom1:q)*"
    ∷ writes "fof(c,conjecture,q). % no axiom" 9 11 9 "(5:rules)" 11 "(4:atom1:q)"
    ∷ writes "fof(a,axiom,p). fof(c,conjecture,q). fof(b,axiom,r)." 32 11 31 "(5:rules(4:atom1:p)(4:atom1:r))*" 11 "(4:atom1:q)"
    ∷ writes "fof(a,axiom,! [X] : (shut(X) => dry(X)))./* */fof(c,conjecture,p & q & r)." 66 47 66 "(5:rules(3:all(3:imp(4:atom4:shut(1:v1:0))(4:atom3:dry(1:v1:0)))))" 47 "(3:and(3:and(4:atom1:p)(4:atom1:q))(4:atom1:r))"
    ∷ refuses "" 13
    ∷ refuses "fof(a,axiom,p)." 13  -- no conjecture
    ∷ refuses "fof(c,conjecture,p). fof(c,conjecture,p)." 13  -- two
    ∷ refuses "fof(c,conjecture,p(X))." 13  -- a free variable
    ∷ refuses "fof(a,lemma,p). fof(c,conjecture,q)." 13
    ∷ refuses "fof(a,axiom,p | q). fof(c,conjecture,q)." 13  -- no clause
    ∷ refuses "fof(a,axiom,p & q | r). fof(c,conjecture,q)." 12
    ∷ refuses "cnf(a,axiom,p). fof(c,conjecture,q)." 12
    ∷ refuses "include('a.p')." 12
    ∷ refuses "fof(a,axiom,~ p). fof(c,conjecture,q" 12  -- 12 before 13
    ∷ refuses_all (octets "fof(a,axiom,p). fof(c,conjecture,q).") 19 11 10
    ∷ refuses_all (octets "fof(a,axiom,p). fof(c,conjecture,q).") 20 10 10
    ∷ refuses_all (octets "fof(c,conjecture,((p" ++ (times 63 (octets "&p") ++ octets "))).")) 0 0 10  -- 64 levels; brackets count for nothing
    ∷ refuses_all (octets "fof(c,conjecture,((p" ++ (times 64 (octets "&p") ++ octets "))).")) 0 0 3  -- 3 before 10
    ∷ refuses_all (replicate 16385 32) 0 0 1
    ∷ []
