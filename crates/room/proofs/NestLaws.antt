-- How many bindings a formula can have in its frame, and how deep a term nests after its variables are replaced (document 01, "Sizes": list nesting at most 64).
-- Every quantifier is a list of its own, so the number of bindings and the nesting of what they are bound in are together at most 64; 63 for a rule, which stands in a list.
use Prim.Native.Nat.{ℕ, zero, suc, ◌+◌, ◌≤◌, ◌<◌}
use mathlib.Core.Path.{◌≡◌, refl, ap}
use mathlib.Core.List.{List, [], ◌∷◌}
use mathlib.Core.Option.{Option, none, some, some-injective}
use native.Mathlib.Omega.{arith}
use lib.ListN.{get_elem?}
use Rattle.basics.specs.Choice.{nope}
use Rattle.harrop.specs.declared.Binding.{Binding}
use Rattle.harrop.specs.declared.Binding.TheVariants.{Candidate, Parameter}
use Rattle.harrop.specs.Formula.{Term, Terms, Atom, Goal, Clause}
use Rattle.harrop.specs.Bindings.{Bindings, meant, value_of, replaced, replaceds}
use Rattle.harrop.specs.Place.{Plain}
use Rattle.packet.specs.Written.{term_sexp, term_sexps, atom_sexp, goal_sexp, clause_sexp, rules_sexp, terms_sexp, each}
use Rattle.sexp.specs.Sexp.{Sexp, nesting, nestings}
use Rattle.room.specs.Layout.{levels}

-- every formula and every term is a list
pub term-nests : (t : Term) → 1 ≤ nesting (term_sexp t)
term-nests (Term.v i) = omega arith
term-nests (Term.f g ts) = omega arith
term-nests (Term.e k) = omega arith

pub atom-nests : (a : Atom) → 1 ≤ nesting (atom_sexp a)
atom-nests (Atom.atom p ts) = omega arith

pub goal-nests : (g : Goal Plain) → 1 ≤ nesting (goal_sexp g)
goal-nests Goal.top = omega arith
goal-nests (Goal.atom a) = atom-nests a
goal-nests (Goal.and g h) = omega arith
goal-nests (Goal.or g h) = omega arith
goal-nests (Goal.some q g) = omega arith
goal-nests (Goal.all q g) = omega arith
goal-nests (Goal.imp d g) = omega arith

pub clause-nests : (d : Clause Plain) → 1 ≤ nesting (clause_sexp d)
clause-nests (Clause.atom_d a) = atom-nests a
clause-nests (Clause.imp_d g a) = omega arith
clause-nests (Clause.all_d q d) = omega arith
clause-nests (Clause.and_d c d) = omega arith

-- members of a list nest less than the list
each-nests : {A : Type 0} (f : A → Sexp) (xs : List A) (i : ℕ) (x : A) → get_elem? xs i ≡ some x → nesting (f x) ≤ nestings (each f xs)
each-nests f [] i x e = nope e
each-nests f (y ∷ xs) zero x e = let same = ap (λ z. nesting (f z)) (some-injective y x e) in omega (arith, same)
each-nests f (y ∷ xs) (suc i) x e = omega (arith, each-nests f xs i x e)

pub rule-nests : (ds : List (Clause Plain)) (k : ℕ) (d : Clause Plain) → get_elem? ds k ≡ some d → nesting (clause_sexp d) + 1 ≤ nesting (rules_sexp ds)
rule-nests ds k d e = omega (arith, each-nests clause_sexp ds k d e)

pub candidate-nests : (ts : List Term) (i : ℕ) (t : Term) → get_elem? ts i ≡ some t → nesting (term_sexp t) + 1 ≤ nesting (terms_sexp ts)
candidate-nests ts i t e = omega (arith, each-nests term_sexp ts i t e)

-- after its variables are replaced a term nests at most 63 deeper, where no candidate nests deeper than a file may: so 128 is enough for a comparison to start from
module _ (cs : List Term) (shallow : (i : ℕ) (t : Term) → get_elem? cs i ≡ some t → nesting (term_sexp t) ≤ levels) where
  meant-nests : (b : Binding) → nesting (term_sexp (meant cs b)) ≤ levels
  meant-nests (Candidate i) = go (get_elem? cs i) refl
    where
      go : (o : Option Term) → get_elem? cs i ≡ o → nesting (term_sexp (elim o as (λ x. Term) [ none ↦ Term.e 0 | some t ↦ t ])) ≤ levels
      go none e = omega arith
      go (some t) e = shallow i t e
  meant-nests (Parameter k) = omega arith

  value-nests : (bs : Bindings) (i : ℕ) → nesting (term_sexp (value_of cs bs i)) ≤ levels
  value-nests [] i = omega arith
  value-nests (b ∷ bs) zero = meant-nests b
  value-nests (b ∷ bs) (suc i) = value-nests bs i

  mutual
    pub replaced-nests : (bs : Bindings) (t : Term) → nesting (term_sexp (replaced cs bs t)) ≤ nesting (term_sexp t) + 63
    replaced-nests bs (Term.v i) = omega (arith, value-nests bs i)
    replaced-nests bs (Term.f g ts) = omega (arith, all-replaced-nest bs ts)
    replaced-nests bs (Term.e k) = omega arith

    pub all-replaced-nest : (bs : Bindings) (ts : Terms) → nestings (term_sexps (replaceds cs bs ts)) ≤ nestings (term_sexps ts) + 63
    all-replaced-nest bs Terms.nil = omega arith
    all-replaced-nest bs (Terms.cons t ts) = omega (arith, replaced-nests bs t, all-replaced-nest bs ts)

-- the frame of a formula holds at most 63 bindings, as a goal's can, and 62 where the formula stands in a list, as a rule and a clause or body inside a formula do
pub frame-at-most : (n : ℕ) (g : Goal Plain) → n + nesting (goal_sexp g) ≤ levels → n ≤ 63
frame-at-most n g h = omega (arith, goal-nests g)

pub clause-frame-at-most : (n : ℕ) (d : Clause Plain) → n + nesting (clause_sexp d) < levels → n ≤ 62
clause-frame-at-most n d h = omega (arith, clause-nests d)

-- from a formula to its parts: a quantifier passed is one binding more and one level less, and any other part is a level less
pub part-under : (n : ℕ) (g h : Goal Plain) → n + nesting (goal_sexp (Goal.and g h)) ≤ levels → (n + nesting (goal_sexp g) < levels) × (n + nesting (goal_sexp h) < levels)
part-under n g h b = (omega arith, omega arith)

pub some-under : (n : ℕ) (q : Plain) (g : Goal Plain) → n + nesting (goal_sexp (Goal.some q g)) ≤ levels → suc n + nesting (goal_sexp g) ≤ levels
some-under n q g b = omega arith

pub all_under : (n : ℕ) (q : Plain) (g : Goal Plain) → n + nesting (goal_sexp (Goal.all q g)) ≤ levels → suc n + nesting (goal_sexp g) ≤ levels
all_under n q g b = omega arith

pub imp-under : (n : ℕ) (d : Clause Plain) (g : Goal Plain) → n + nesting (goal_sexp (Goal.imp d g)) ≤ levels → (n + nesting (clause_sexp d) < levels) × (n + nesting (goal_sexp g) < levels)
imp-under n d g b = (omega arith, omega arith)

pub clause-all-under : (n : ℕ) (q : Plain) (d : Clause Plain) → n + nesting (clause_sexp (Clause.all_d q d)) < levels → suc n + nesting (clause_sexp d) < levels
clause-all-under n q d b = omega arith

pub clause-and-under : (n : ℕ) (c d : Clause Plain) → n + nesting (clause_sexp (Clause.and_d c d)) < levels → (n + nesting (clause_sexp c) < levels) × (n + nesting (clause_sexp d) < levels)
clause-and-under n c d b = (omega arith, omega arith)

pub body-under : (n : ℕ) (g : Goal Plain) (a : Atom) → n + nesting (clause_sexp (Clause.imp_d g a)) < levels → n + nesting (goal_sexp g) < levels
body-under n g a b = omega arith
