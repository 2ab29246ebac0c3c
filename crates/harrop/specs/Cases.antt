-- Document 01's cases 1 to 10 ("Strips to try, on both sides"), taken as trees: what is asked and what the document answers. A place is a position here, and the length in bytes of case 4 is left to the crates that know bytes.
-- Two tables more, of the same form: the options in order, and height and nodes.
use Rattle.std.specs.Prelude.{ℕ, zero, suc, List, [], ◌∷◌, replicate}
use Rattle.std.proofs.Math.Option.{Option, none, some}
use Rattle.basics.specs.Text.{octets}
use Rattle.harrop.specs.Formula.{Name, Term, Terms, Atom, Goal, Clause, Step, Strip}
use Rattle.harrop.specs.Place.{Plain, listed, root}
use Rattle.harrop.specs.Check.{Judged, check_at}
use Rattle.harrop.specs.Search.{first_at}

-- rules, goal and terms
pub record Packet : Type 0 where
  pub rules : List (Clause Plain)
  pub goal : Goal Plain
  pub terms : List Term

pub data Asked : Type 0 where
  judge : Packet → Strip → Asked
  search : Packet → List ℕ → Asked  -- at each of these heights

pub data Answer : Type 0 where
  judged : Judged → Answer
  found : List (Option Strip) → Answer

abbrev searches : Packet → List ℕ → List (Option Strip)
searches k [] = []
searches k (h ∷ hs) = first_at (listed k.terms) h (root k.rules k.goal) ∷ searches k hs

abbrev pub answer : Asked → Answer
answer (Asked.judge k P) = Answer.judged (check_at (listed k.terms) (root k.rules k.goal) P)
answer (Asked.search k hs) = Answer.found (searches k hs)

abbrev up_to : ℕ → List ℕ
up_to zero = 0 ∷ []
up_to (suc n) = suc n ∷ up_to n

abbrev of : Name → Term → Atom
of g t = Atom.atom g (Terms.cons t Terms.nil)

abbrev pub p7 : Term
p7 = Term.f (octets "p7") Terms.nil

abbrev p : Atom
p = Atom.atom (octets "p") Terms.nil

abbrev q : Atom
q = Atom.atom (octets "q") Terms.nil

-- eq of two variables
abbrev eq : ℕ → ℕ → Atom
eq i j = Atom.atom (octets "eq") (Terms.cons (Term.v i) (Terms.cons (Term.v j) Terms.nil))

-- base packet B, and its strip
abbrev pub B : Packet
B =
    record {
      rules = Clause.all_d tt (Clause.imp_d (Goal.atom (of (octets "shut") (Term.v 0))) (of (octets "dry") (Term.v 0))) ∷ [];
      goal = Goal.imp (Clause.atom_d (of (octets "shut") p7)) (Goal.atom (of (octets "dry") p7));
      terms = p7 ∷ [];
    }

abbrev pub strip_b : ℕ → Strip
strip_b k = Strip.imp (Strip.use₁ 0 (Step.n 0 ∷ []) (Strip.use₀ k []))

-- no rules and no terms
abbrev bare : Goal Plain → Packet
bare g = record { rules = []; goal = g; terms = [] }

-- rule "all: eq(x, x)", terms only parameter 1
abbrev reflexive : Goal Plain → Packet
reflexive g =
    record {
      rules = Clause.all_d tt (Clause.atom_d (eq 0 0)) ∷ [];
      goal = g;
      terms = Term.e 1 ∷ [];
    }

abbrev pub table : List (Asked × Answer)
table =
    (Asked.judge B (strip_b 1), Answer.judged (Judged.fits 3 3))  -- 1
    ∷ (Asked.judge B (strip_b 0), Answer.judged (Judged.misfit (0 ∷ 0 ∷ [])))  -- 2
    ∷ (Asked.search B (0 ∷ 2 ∷ []), Answer.found (none ∷ none ∷ []))  -- 3
    ∷ (Asked.search B (3 ∷ []), Answer.found (some (strip_b 1) ∷ []))  -- 4
    ∷ (Asked.judge (bare Goal.top) Strip.top, Answer.judged (Judged.fits 1 1))  -- 5
    ∷ (Asked.judge (bare (Goal.and (Goal.imp (Clause.atom_d p) (Goal.atom p)) (Goal.atom p))) (Strip.and (Strip.imp (Strip.use₀ 0 [])) (Strip.use₀ 0 [])), Answer.judged (Judged.misfit (1 ∷ [])))  -- 6
    ∷ (Asked.judge (reflexive (Goal.all tt (Goal.some tt (Goal.atom (eq 1 0))))) (Strip.all (Strip.some 0 (Strip.use₀ 0 (Step.n 0 ∷ [])))), Answer.judged (Judged.fits 3 3))  -- 7
    ∷ (Asked.judge (reflexive (Goal.some tt (Goal.all tt (Goal.atom (eq 0 1))))) (Strip.some 0 (Strip.all (Strip.use₀ 0 (Step.n 0 ∷ [])))), Answer.judged (Judged.misfit []))  -- 8
    ∷ (Asked.search (bare (Goal.or (Goal.imp (Clause.atom_d p) (Goal.atom q)) (Goal.atom p))) (up_to 32), Answer.found (replicate 33 none))  -- 9
    ∷ (Asked.search (bare (Goal.imp (Clause.imp_d (Goal.imp (Clause.atom_d p) (Goal.atom q)) p) (Goal.atom p))) (up_to 32), Answer.found (replicate 33 none))  -- 10
    ∷ []

-- the options in order, where more than one has a proof: left; the lower candidate; the lower clause; `l`; at "all (p and p)" the candidate before `l`; and at a low height the first option that has a proof within it, not the first of all
abbrev pub options : List (Asked × Answer)
options =
    (Asked.search (bare (Goal.or Goal.top Goal.top)) (2 ∷ []), Answer.found (some (Strip.left Strip.top) ∷ []))
    ∷ (Asked.search (record { rules = []; goal = Goal.some tt Goal.top; terms = p7 ∷ p7 ∷ [] }) (2 ∷ []), Answer.found (some (Strip.some 0 Strip.top) ∷ []))
    ∷ (Asked.search (record { rules = Clause.atom_d q ∷ Clause.atom_d p ∷ Clause.atom_d p ∷ []; goal = Goal.atom p; terms = [] }) (1 ∷ []), Answer.found (some (Strip.use₀ 1 []) ∷ []))
    ∷ (Asked.search (record { rules = Clause.and_d (Clause.atom_d p) (Clause.atom_d p) ∷ []; goal = Goal.atom p; terms = [] }) (1 ∷ []), Answer.found (some (Strip.use₀ 0 (Step.l ∷ [])) ∷ []))
    ∷ (Asked.search (record { rules = Clause.all_d tt (Clause.and_d (Clause.atom_d q) (Clause.atom_d p)) ∷ []; goal = Goal.atom p; terms = p7 ∷ p7 ∷ [] }) (1 ∷ []), Answer.found (some (Strip.use₀ 0 (Step.n 0 ∷ Step.r ∷ [])) ∷ []))
    ∷ (Asked.search (record { rules = Clause.imp_d (Goal.atom q) p ∷ Clause.atom_d p ∷ Clause.atom_d q ∷ []; goal = Goal.atom p; terms = [] }) (1 ∷ 2 ∷ []), Answer.found (some (Strip.use₀ 1 []) ∷ some (Strip.use₁ 0 [] (Strip.use₀ 2 [])) ∷ []))
    ∷ []

-- height and nodes where they differ: ⊤ ∧ (⊤ ∧ ⊤) has five nodes and the height 3
abbrev pub counts : List (Asked × Answer)
counts =
    (Asked.judge (bare (Goal.and Goal.top (Goal.and Goal.top Goal.top))) (Strip.and Strip.top (Strip.and Strip.top Strip.top)), Answer.judged (Judged.fits 3 5))
    ∷ []

abbrev pub answers : List (Asked × Answer) → List Answer
answers [] = []
answers (r ∷ rs) = answer r.0 ∷ answers rs

abbrev pub stated : List (Asked × Answer) → List Answer
stated [] = []
stated (r ∷ rs) = r.1 ∷ stated rs
