-- Document 01's cases marked P, 1 to 9 ("Strips to try, on both sides"), as files of bytes: what is asked of the checker or of the search, and what the document answers, in its numbers, with the strip's bytes where one is found.
-- The answers asked for are those that the contracts of `judge` and `propose` cite.
use Rattle.std.specs.Prelude.{ℕ, zero, suc, List, [], ◌∷◌, replicate, take}
use Prim.Native.String.{String}
use Rattle.basics.specs.Text.{octets}
use Rattle.room.specs.Layout.{words}
use Rattle.judge.specs.Verdict as judge
use Rattle.proposal.specs.Proposed as propose

-- rules, goal and terms as the document prints them
pub record Files : Type 0 where
  pub rules : String
  pub goal : String
  pub terms : String

-- is this strip a proof, or which strip is the first, with a buffer of this size and at each of these heights
pub data Asked : Type 0 where
  judged : Files → String → Asked
  searched : Files → ℕ → List ℕ → Asked

-- what the document answers: accepted with height and nodes; found with height, nodes, length and the strip; refused with number, file and place
pub data Answer : Type 0 where
  accepted : ℕ → ℕ → Answer
  found : ℕ → ℕ → ℕ → List ℕ → Answer
  refused : ℕ → ℕ → ℕ → Answer

-- a verdict in the document's numbers
abbrev pub of_verdict : judge.Answer → Answer
of_verdict (judge.Answer.accepted h n) = Answer.accepted h n
of_verdict (judge.Answer.refused n f at) = Answer.refused n f at

-- a search's answer in the document's numbers, and the front of its buffer afterwards
abbrev pub of_search : propose.Paper → List ℕ → Answer
of_search (propose.Paper.found h n l) buffer = Answer.found h n l (take l buffer)
of_search (propose.Paper.refused n f at) buffer = Answer.refused n f at

-- with the work room that document 01 names
abbrev pub verdict : Files → String → Answer
verdict k s = of_verdict (judge.paper (judge.verdict_of words (octets k.rules) (octets k.goal) (octets k.terms) (octets s)))

abbrev pub search : Files → ℕ → ℕ → Answer
search k size h =
    of_search (propose.paper (propose.proposal_of h size words (octets k.rules) (octets k.goal) (octets k.terms)))
    (propose.buffer_after h words (octets k.rules) (octets k.goal) (octets k.terms) (replicate size 0))

abbrev pub searches : Files → ℕ → List ℕ → List Answer
searches k size [] = []
searches k size (h ∷ hs) = search k size h ∷ searches k size hs

abbrev pub answered : Asked → List Answer
answered (Asked.judged k s) = verdict k s ∷ []
answered (Asked.searched k size hs) = searches k size hs

-- no proof within the height
abbrev pub eight : Answer
eight = Answer.refused 8 0 0

abbrev pub up_to : ℕ → List ℕ
up_to zero = 0 ∷ []
up_to (suc n) = suc n ∷ up_to n

-- base packet B, and its strip
abbrev pub B : Files
B = record {
  rules = "(5:rules(3:all(3:imp(4:atom4:shut(1:v1:0))(4:atom3:dry(1:v1:0)))))";
  goal = "(3:imp(4:atom4:shut(1:f2:p7))(4:atom3:dry(1:f2:p7)))";
  terms = "(5:terms(1:f2:p7))";
}

abbrev pub strip_b : String
strip_b = "(3:imp(3:use1:0(1:0)(3:use1:1())))"

-- no rules and no terms
abbrev pub bare : String → Files
bare g = record { rules = "(5:rules)"; goal = g; terms = "(5:terms)" }

-- rule "all: eq(x, x)", terms only parameter 1
abbrev pub reflexive : String → Files
reflexive g = record { rules = "(5:rules(3:all(4:atom2:eq(1:v1:0)(1:v1:0))))"; goal = g; terms = "(5:terms(1:e1:1))" }

abbrev pub table : List (Asked × List Answer)
table =
    (Asked.judged B strip_b, Answer.accepted 3 3 ∷ [])  -- 1
    ∷ (Asked.judged B "(3:imp(3:use1:0(1:0)(3:use1:0())))", Answer.refused 7 4 20 ∷ [])  -- 2
    ∷ (Asked.searched B 16384 (0 ∷ 2 ∷ []), eight ∷ eight ∷ [])  -- 3
    ∷ (Asked.searched B 16384 (3 ∷ []), Answer.found 3 3 34 (octets strip_b) ∷ [])  -- 4
    ∷ (Asked.searched B 33 (3 ∷ []), Answer.refused 10 0 0 ∷ [])  -- 4
    ∷ (Asked.searched B 34 (3 ∷ []), Answer.found 3 3 34 (octets strip_b) ∷ [])  -- 4
    ∷ (Asked.judged (bare "(3:top)") "(3:top)", Answer.accepted 1 1 ∷ [])  -- 5
    ∷ (Asked.judged (bare "(3:and(3:imp(4:atom1:p)(4:atom1:p))(4:atom1:p))") "(3:and(3:imp(3:use1:0()))(3:use1:0()))", Answer.refused 7 4 25 ∷ [])  -- 6
    ∷ (Asked.judged (reflexive "(3:all(4:some(4:atom2:eq(1:v1:1)(1:v1:0))))") "(3:all(4:some1:0(3:use1:0(1:0))))", Answer.accepted 3 3 ∷ [])  -- 7
    ∷ (Asked.judged (reflexive "(4:some(3:all(4:atom2:eq(1:v1:0)(1:v1:1))))") "(4:some1:0(3:all(3:use1:0(1:0))))", Answer.refused 7 4 0 ∷ [])  -- 8
    ∷ (Asked.searched (bare "(2:or(3:imp(4:atom1:p)(4:atom1:q))(4:atom1:p))") 16384 (up_to 32), replicate 33 eight)  -- 9
    ∷ []

abbrev pub answers : List (Asked × List Answer) → List (List Answer)
answers [] = []
answers (r ∷ rs) = answered r.0 ∷ answers rs

abbrev pub stated : List (Asked × List Answer) → List (List Answer)
stated [] = []
stated (r ∷ rs) = r.1 ∷ stated rs
