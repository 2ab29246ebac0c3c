-- A packet's formulas and candidates are over its signature (specs/Packet): rules and goal have no free variable and no parameter, candidates no variable and parameters from 1 on.
use Prim.Native.Nat.{ℕ, zero, suc, ◌≤◌, ◌<◌}
use mathlib.Core.Path.{◌≡◌, refl, sym, ap, subst}
use mathlib.Core.List.Memᴰ
use mathlib.Core.List.{List, [], ◌∷◌, ◌++◌, map, Memᴰ}
use mathlib.Core.Option.{Option, none, some, some-injective}
use native.Mathlib.Omega.{arith}
use native.Mathlib.Decide.{ℕ_discrete}
use lib.ListN.{length, get_elem?}
use Rattle.basics.specs.Choice.{nope}
use Rattle.basics.specs.Each.{Each}
use Rattle.harrop.specs.Formula.{Name, Term, Terms, Atom, Goal, Clause}
use Rattle.harrop.specs.Bindings.{highest, highests, nothing}
use Rattle.harrop.specs.Place.{Plain, listed}
use Rattle.harrop.specs.Scoped.{TermWithin, TermsWithin, GoalWithin, ClauseWithin, ClosedClause, Candid, Fair}
use Rattle.calculus.specs.Formula.{Formula}
use Rattle.calculus.specs.Signature.{HasSort, HaveSorts, Has, FormulaOver, Over}
use Rattle.calculus.specs.Translation.{goal_formula, clause_formula, parameters_of, signature_at}
use Rattle.calculus.specs.Apt.{Apt}
use Rattle.calculus.specs.Symbol.{Symbol, count}
use Rattle.calculus.specs.Packet.{functions_in, functions_in_all, of_atoms, atom_functions, atom_predicates, of_each, formulas_of, plain, packet_functions, packet_predicates, packet_symbols, packet_signature, FormulaWithin, Closed}

-- every member of the list is one of the set
abbrev pub Among : List Symbol → (Symbol → Type 0) → Type 0
Among xs F = (x : Symbol) → Memᴰ x xs → F x

among_first : (xs ys : List Symbol) {F : Symbol → Type 0} → Among (xs ++ ys) F → Among xs F
among_first xs ys h x m = h x (Memᴰ.append_left ys m)

among_second : (xs ys : List Symbol) {F : Symbol → Type 0} → Among (xs ++ ys) F → Among ys F
among_second xs ys h x m = h x (Memᴰ.append_right xs m)

-- one sort for each term
abbrev sorts_for : Terms → List Plain
sorts_for Terms.nil = []
sorts_for (Terms.cons t ts) = tt ∷ sorts_for ts

sorts-counted : (ts : Terms) → length (sorts_for ts) ≡ count ts
sorts-counted Terms.nil = refl
sorts-counted (Terms.cons t ts) = ap (λ (n : ℕ). suc n) (sorts-counted ts)

counted : (F : Symbol → Type 0) (g : Name) (ts : Terms) → F (g, count ts) → F (g, length (sorts_for ts))
counted F g ts m = subst (λ (n : ℕ). F (g, n)) (sym (sorts-counted ts)) m

-- a variable below their number has the one sort
variable-has : (vs : List Plain) (i : ℕ) (s : Plain) → i < length vs → get_elem? vs i ≡ some s
variable-has [] i s h = absurd (omega arith)
variable-has (v ∷ vs) zero s h = refl
variable-has (v ∷ vs) (suc i) s h = variable-has vs i s (omega arith)

module _ (F G : Symbol → Type 0) (ps : List (ℕ × Plain)) (P : ℕ → Type 0) (h : (k : ℕ) → P k → (s : Plain) → Memᴰ (k, s) ps) where
  mutual
    plain-has : (vs : List Plain) (t : Term) (s : Plain) → TermWithin P (length vs) t → Among (functions_in t) F → HasSort (record { symbols = plain F G; parameters = ps }) vs t s
    plain-has vs (Term.v i) s w m = variable-has vs i s w
    plain-has vs (Term.f g ts) s w m = (sorts_for ts, counted F g ts (m (g, count ts) (Memᴰ.head refl)), plain-have vs ts w (λ x n. m x (Memᴰ.tail n)))
    plain-has vs (Term.e k) s w m = h k w s

    plain-have : (vs : List Plain) (ts : Terms) → TermsWithin P (length vs) ts → Among (functions_in_all ts) F → HaveSorts (record { symbols = plain F G; parameters = ps }) vs ts (sorts_for ts)
    plain-have vs Terms.nil w m = tt
    plain-have vs (Terms.cons t ts) w m = (plain-has vs t tt w.0 (among_first (functions_in t) (functions_in_all ts) m), plain-have vs ts w.1 (among_second (functions_in t) (functions_in_all ts) m))

  plain_over : (vs : List Plain) (B : Formula Plain) → FormulaWithin P (length vs) B → Among (of_atoms atom_functions B) F → Among (of_atoms atom_predicates B) G → FormulaOver (record { symbols = plain F G; parameters = ps }) vs B
  plain_over vs (Formula.atom (Atom.atom p ts)) w m n = (sorts_for ts, counted G p ts (n (p, count ts) (Memᴰ.head refl)), plain-have vs ts w m)
  plain_over vs Formula.top w m n = tt
  plain_over vs Formula.bottom w m n = tt
  plain_over vs (Formula.and B C) w m n =
      (plain_over vs B w.0 (among_first (of_atoms atom_functions B) (of_atoms atom_functions C) m) (among_first (of_atoms atom_predicates B) (of_atoms atom_predicates C) n), plain_over vs C w.1 (among_second (of_atoms atom_functions B) (of_atoms atom_functions C) m) (among_second (of_atoms atom_predicates B) (of_atoms atom_predicates C) n))
  plain_over vs (Formula.or B C) w m n =
      (plain_over vs B w.0 (among_first (of_atoms atom_functions B) (of_atoms atom_functions C) m) (among_first (of_atoms atom_predicates B) (of_atoms atom_predicates C) n), plain_over vs C w.1 (among_second (of_atoms atom_functions B) (of_atoms atom_functions C) m) (among_second (of_atoms atom_predicates B) (of_atoms atom_predicates C) n))
  plain_over vs (Formula.implies B C) w m n =
      (plain_over vs B w.0 (among_first (of_atoms atom_functions B) (of_atoms atom_functions C) m) (among_first (of_atoms atom_predicates B) (of_atoms atom_predicates C) n), plain_over vs C w.1 (among_second (of_atoms atom_functions B) (of_atoms atom_functions C) m) (among_second (of_atoms atom_predicates B) (of_atoms atom_predicates C) n))
  plain_over vs (Formula.all s B) w m n = plain_over (s ∷ vs) B w m n
  plain_over vs (Formula.some s B) w m n = plain_over (s ∷ vs) B w m n

  pub all-plain-over : (L : List (Formula Plain)) → Each (FormulaWithin P 0) L → Among (of_each (of_atoms atom_functions) L) F → Among (of_each (of_atoms atom_predicates) L) G → Each (Over (record { symbols = plain F G; parameters = ps })) L
  all-plain-over [] w m n = tt
  all-plain-over (B ∷ L) w m n =
      (plain_over [] B w.0 (among_first (of_atoms atom_functions B) (of_each (of_atoms atom_functions) L) m) (among_first (of_atoms atom_predicates B) (of_each (of_atoms atom_predicates) L) n), all-plain-over L w.1 (among_second (of_atoms atom_functions B) (of_each (of_atoms atom_functions) L) m) (among_second (of_atoms atom_predicates B) (of_each (of_atoms atom_predicates) L) n))

-- the parameters of a candidate lie between 1 and the highest
mutual
  bounded : (p : ℕ) (t : Term) → TermWithin (λ k. 1 ≤ k) 0 t → highest t ≤ p → TermWithin (λ k. (1 ≤ k) × (k ≤ p)) 0 t
  bounded p (Term.v i) w l = w
  bounded p (Term.f g ts) w l = all-bounded p ts w l
  bounded p (Term.e k) w l = (w, l)

  all-bounded : (p : ℕ) (ts : Terms) → TermsWithin (λ k. 1 ≤ k) 0 ts → highests ts ≤ p → TermsWithin (λ k. (1 ≤ k) × (k ≤ p)) 0 ts
  all-bounded p Terms.nil w l = tt
  all-bounded p (Terms.cons t ts) w l = (bounded p t w.0 (omega arith), all-bounded p ts w.1 (omega arith))

pub open-is-declared : (o : List Plain) (k : ℕ) (s : Plain) → 1 ≤ k → k ≤ length o → Memᴰ (k, s) (parameters_of o)
open-is-declared [] k s l u = absurd (omega arith)
open-is-declared (q ∷ o) k s l u = go (λ h. open-is-declared o k s l h) (ℕ_discrete k (suc (length o)))
  where
    go : (k ≤ length o → Memᴰ (k, s) (parameters_of o)) → Dec (k ≡ suc (length o)) → Memᴰ (k, s) (parameters_of (q ∷ o))
    go f (yes e) = Memᴰ.head (ap (λ (n : ℕ). (n, q)) e)
    go f (no n) = Memᴰ.tail (f (omega arith))

-- candidate i is candid, and its functions are those of the list
listed-candid : (ts : List Term) (i : ℕ) (t : Term) → Each Candid ts → get_elem? ts i ≡ some t → Candid t × Among (functions_in t) (λ x. Memᴰ x (of_each functions_in ts))
listed-candid [] i t c e = nope e
listed-candid (x ∷ ts) zero t c e = subst (λ (y : Term). Candid y × Among (functions_in y) (λ u. Memᴰ u (of_each functions_in (x ∷ ts)))) (some-injective x t e) (c.0, λ z m. Memᴰ.append_left (of_each functions_in ts) m)
listed-candid (x ∷ ts) (suc i) t c e = let (d, h) = listed-candid ts i t c.1 e in (d, λ z m. Memᴰ.append_right (functions_in x) (h z m))

-- a goal or a clause and its formula have the same free variables and parameters
mutual
  goal-within : {Q : Type 0} (P : ℕ → Type 0) (n : ℕ) (g : Goal Q) → GoalWithin P n g → FormulaWithin P n (goal_formula g)
  goal-within P n Goal.top w = tt
  goal-within P n (Goal.atom a) w = w
  goal-within P n (Goal.and g h) w = (goal-within P n g w.0, goal-within P n h w.1)
  goal-within P n (Goal.or g h) w = (goal-within P n g w.0, goal-within P n h w.1)
  goal-within P n (Goal.some q g) w = goal-within P (suc n) g w
  goal-within P n (Goal.all q g) w = goal-within P (suc n) g w
  goal-within P n (Goal.imp d g) w = (clause-within P n d w.0, goal-within P n g w.1)

  clause-within : {Q : Type 0} (P : ℕ → Type 0) (n : ℕ) (d : Clause Q) → ClauseWithin P n d → FormulaWithin P n (clause_formula d)
  clause-within P n (Clause.atom_d a) w = w
  clause-within P n (Clause.imp_d g a) w = (goal-within P n g w.0, w.1)
  clause-within P n (Clause.all_d q d) w = clause-within P (suc n) d w
  clause-within P n (Clause.and_d c d) w = (clause-within P n c w.0, clause-within P n d w.1)

rules-closed : {Q : Type 0} (ds : List (Clause Q)) → Each ClosedClause ds → Each Closed (map clause_formula ds)
rules-closed [] w = tt
rules-closed (d ∷ ds) w = (clause-within (λ k. ⊥) 0 d w.0, rules-closed ds w.1)

-- rules and goal of a fair packet, as formulas, have no free variable and no parameter
pub packet-closed : {Q : Type 0} (ds : List (Clause Q)) (g : Goal Q) (ts : List Term) → Fair ds g ts → Each Closed (formulas_of ds g)
packet-closed ds g ts f = (goal-within (λ k. ⊥) 0 g f.goal, rules-closed ds f.rules)

-- the candidates of a fair packet have the sort asked for wherever they may be used
pub packet-apt : (ds : List (Clause Plain)) (g : Goal Plain) (ts : List Term) → Fair ds g ts → Apt (packet_symbols ds g ts) (listed ts)
packet-apt ds g ts f o s i m = subst (λ (x : Option Term). Has (signature_at (packet_symbols ds g ts) o) (elim x as (λ y. Term) [ none ↦ nothing | some t ↦ t ]) s) (sym m.is_listed) here
  where
    rest : List Symbol
    rest = of_each (of_atoms atom_functions) (formulas_of ds g)

    here : Has (signature_at (packet_symbols ds g ts) o) m.term s
    here =
        let (c, h) = listed-candid ts i m.term f.terms m.is_listed in
        plain-has (λ x. Memᴰ x (packet_functions ds g ts)) (λ x. Memᴰ x (packet_predicates ds g)) (parameters_of o) (λ k. (1 ≤ k) × (k ≤ length o)) (λ k b r. open-is-declared o k r b.0 b.1)
        [] m.term s (bounded (length o) m.term c m.is_open) (λ x n. Memᴰ.append_left rest (h x n))

-- the formulas of a fair packet are over its signature
pub packet-over : (ds : List (Clause Plain)) (g : Goal Plain) (ts : List Term) → Fair ds g ts → Each (Over (packet_signature ds g ts)) (formulas_of ds g)
packet-over ds g ts f =
    all-plain-over (λ x. Memᴰ x (packet_functions ds g ts)) (λ x. Memᴰ x (packet_predicates ds g)) [] (λ k. ⊥) (λ k b s. absurd b)
    (formulas_of ds g) (packet-closed ds g ts f) (λ x m. Memᴰ.append_right (of_each functions_in ts) m) (λ x m. m)
