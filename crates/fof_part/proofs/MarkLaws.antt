-- What the marks of an expression say of it: their bytes are its spelling, and as deep as they go it nests. No expression that is written here has a display hint.
-- The marks of the file of rules are those of its rules one after another, between its head and its end.
use Prim.Native.Nat.{ℕ, suc, ◌+◌, ◌-◌, ◌≤◌, max}
use mathlib.Core.Path.{◌≡◌, refl, sym, ◌∙◌, ap}
use mathlib.Core.Bool.{false, false≢true}
use mathlib.Core.List.{List, [], ◌∷◌, ◌++◌, map, append_assoc}
use native.Mathlib.Omega.{arith}
use Rattle.basics.specs.Text.{octets}
use Rattle.harrop.specs.Formula.{Term, Terms, Atom, Goal, Clause}
use Rattle.harrop.specs.Place as place
use Rattle.sexp.specs.Sexp.{Sexp, Sexps, spell, spell_onto, spells_onto, nesting, nestings}
use Rattle.sexp.specs.Known.{Knowns, Plain}
use Rattle.packet.specs.Written.{term_sexp, term_sexps, atom_sexp, goal_sexp, clause_sexp, each, rules_sexp}
use Rattle.fof_truth.specs.Sentence.{Sentence}
use Rattle.fof_truth.specs.Book.{rules_in, goals_in}
use Rattle.fof_part.specs.Mark.{Mark, marks_onto, marks_all_onto, marks_of, inked, deepest}
use Rattle.fof_part.specs.Lines.{items}
use Rattle.fof_part.specs.Files.{axioms_in, conjectures_in, joined, rules_marks}
use Rattle.fof_part.proofs.OntoLaws.{onto}

-- the bytes of an expression's marks in front of others
mutual
  pub inked-onto : (e : Sexp) → Plain e → (k : List Mark) → inked (marks_onto e k) ≡ spell_onto e (inked k)
  inked-onto (Sexp.str w) p k = refl
  inked-onto (Sexp.hinted h w) p k = absurd (false≢true p)
  inked-onto (Sexp.list xs) p k = ap (λ (b : List ℕ). 40 ∷ b) (inked-all xs p (Mark.end ∷ k))

  pub inked-all : (xs : Sexps) → Knowns false xs → (k : List Mark) → inked (marks_all_onto xs k) ≡ spells_onto xs (inked k)
  inked-all Sexps.nil p k = refl
  inked-all (Sexps.cons x xs) p k = inked-onto x p.0 (marks_all_onto xs k) ∙ ap (spell_onto x) (inked-all xs p.1 k)

pub inked-of : (e : Sexp) → Plain e → inked (marks_of e) ≡ spell e
inked-of e p = inked-onto e p []

-- the level that marks start from is reached
pub deepest-least : (ms : List Mark) (n : ℕ) → n ≤ deepest n ms
deepest-least [] n = omega arith
deepest-least (Mark.begin ∷ ms) n = omega arith
deepest-least (Mark.string w ∷ ms) n = deepest-least ms n
deepest-least (Mark.end ∷ ms) n = omega arith

list-deepest : (n a m d : ℕ) → n ≤ d → m ≡ max (suc n + a) (max (suc n) d) → max n m ≡ max (n + (a + 1)) d
list-deepest n a m d h e = omega arith

-- how deep an expression's marks in front of others go
mutual
  pub deepest-onto : (e : Sexp) (n : ℕ) (k : List Mark) → deepest n (marks_onto e k) ≡ max (n + nesting e) (deepest n k)
  deepest-onto (Sexp.str w) n k =
      let l = deepest-least k n in
      omega arith
  deepest-onto (Sexp.hinted h w) n k =
      let l = deepest-least k n in
      omega arith
  deepest-onto (Sexp.list xs) n k =
      list-deepest n (nestings xs) (deepest (suc n) (marks_all_onto xs (Mark.end ∷ k))) (deepest n k) (deepest-least k n)
      (deepest-all xs (suc n) (Mark.end ∷ k) ∙ ap (λ m. max (suc n + nestings xs) (max (suc n) (deepest m k))) {x = suc n - 1} {y = n} (omega arith))

  pub deepest-all : (xs : Sexps) (n : ℕ) (k : List Mark) → deepest n (marks_all_onto xs k) ≡ max (n + nestings xs) (deepest n k)
  deepest-all Sexps.nil n k =
      let l = deepest-least k n in
      omega arith
  deepest-all (Sexps.cons x xs) n k =
      let a = deepest-onto x n (marks_all_onto xs k) in
      let b = deepest-all xs n k in
      omega arith

pub deepest-of : (e : Sexp) → deepest 0 (marks_of e) ≡ nesting e
deepest-of e =
    let a = deepest-onto e 0 [] in
    omega arith

-- nothing that is written has a hint
mutual
  term-plain : (t : Term) → Plain (term_sexp t)
  term-plain (Term.v i) = (tt, (tt, tt))
  term-plain (Term.f g ts) = (tt, (tt, terms-plain ts))
  term-plain (Term.e k) = (tt, (tt, tt))

  terms-plain : (ts : Terms) → Knowns false (term_sexps ts)
  terms-plain Terms.nil = tt
  terms-plain (Terms.cons t ts) = (term-plain t, terms-plain ts)

atom-plain : (a : Atom) → Plain (atom_sexp a)
atom-plain (Atom.atom p ts) = (tt, (tt, terms-plain ts))

mutual
  pub goal-plain : (g : Goal place.Plain) → Plain (goal_sexp g)
  goal-plain Goal.top = (tt, tt)
  goal-plain (Goal.atom a) = atom-plain a
  goal-plain (Goal.and g h) = (tt, (goal-plain g, (goal-plain h, tt)))
  goal-plain (Goal.or g h) = (tt, (goal-plain g, (goal-plain h, tt)))
  goal-plain (Goal.some q g) = (tt, (goal-plain g, tt))
  goal-plain (Goal.all q g) = (tt, (goal-plain g, tt))
  goal-plain (Goal.imp d g) = (tt, (clause-plain d, (goal-plain g, tt)))

  pub clause-plain : (d : Clause place.Plain) → Plain (clause_sexp d)
  clause-plain (Clause.atom_d a) = atom-plain a
  clause-plain (Clause.imp_d g a) = (tt, (goal-plain g, (atom-plain a, tt)))
  clause-plain (Clause.all_d q d) = (tt, (clause-plain d, tt))
  clause-plain (Clause.and_d c d) = (tt, (clause-plain c, (clause-plain d, tt)))

each-plain : (ds : List (Clause place.Plain)) → Knowns false (each clause_sexp ds)
each-plain [] = tt
each-plain (d ∷ ds) = (clause-plain d, each-plain ds)

pub rules-plain : (ds : List (Clause place.Plain)) → Plain (rules_sexp ds)
rules-plain ds = (tt, each-plain ds)

-- the goal's file
pub goal-inked : (g : Goal place.Plain) → inked (marks_of (goal_sexp g)) ≡ spell (goal_sexp g)
goal-inked g = inked-of (goal_sexp g) (goal-plain g)

-- the marks of rules, each on its own
abbrev pub rule_marks : List (Clause place.Plain) → List (List Mark)
rule_marks ds = map (λ d. marks_of (clause_sexp d)) ds

each-joined : (ds : List (Clause place.Plain)) (k : List Mark) → joined (rule_marks ds) ++ k ≡ marks_all_onto (each clause_sexp ds) k
each-joined [] k = refl
each-joined (d ∷ ds) k =
    append_assoc (marks_of (clause_sexp d)) (joined (rule_marks ds)) k
    ∙ ap (λ (ms : List Mark). marks_of (clause_sexp d) ++ ms) (each-joined ds k)
    ∙ sym (onto (clause_sexp d) (marks_all_onto (each clause_sexp ds) k))

-- the rules' file
pub rules-joined : (ds : List (Clause place.Plain)) → rules_marks (rule_marks ds) ≡ marks_of (rules_sexp ds)
rules-joined ds = ap (λ (ms : List Mark). Mark.begin ∷ Mark.string (octets "rules") ∷ ms) (each-joined ds (Mark.end ∷ []))

pub rules-inked : (ds : List (Clause place.Plain)) → inked (rules_marks (rule_marks ds)) ≡ spell (rules_sexp ds)
rules-inked ds = ap inked (rules-joined ds) ∙ inked-of (rules_sexp ds) (rules-plain ds)

pub rules-deepest : (ds : List (Clause place.Plain)) → deepest 0 (rules_marks (rule_marks ds)) ≡ nesting (rules_sexp ds)
rules-deepest ds = ap (deepest 0) (rules-joined ds) ∙ deepest-of (rules_sexp ds)

-- among the items of a book the axioms' are its rules, and the conjectures' its goals
pub axioms-are : (ss : List Sentence) → axioms_in (items ss) ≡ rule_marks (rules_in ss)
axioms-are [] = refl
axioms-are (Sentence.rule d ∷ ss) = ap (λ (mss : List (List Mark)). marks_of (clause_sexp d) ∷ mss) (axioms-are ss)
axioms-are (Sentence.goal g ∷ ss) = axioms-are ss

pub conjectures-are : (ss : List Sentence) → conjectures_in (items ss) ≡ map (λ g. marks_of (goal_sexp g)) (goals_in ss)
conjectures-are [] = refl
conjectures-are (Sentence.rule d ∷ ss) = conjectures-are ss
conjectures-are (Sentence.goal g ∷ ss) = ap (λ (mss : List (List Mark)). marks_of (goal_sexp g) ∷ mss) (conjectures-are ss)
