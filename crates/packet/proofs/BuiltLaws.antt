-- What is written, with document 01's names and numbers, is built from the table of words: Wrong has no place in it, wherever it starts.
use Prim.Native.Nat.{ℕ, ◌+◌}
use mathlib.Core.Path.{◌≡◌, refl, sym, ◌∙◌, ap, subst}
use mathlib.Core.Bool.{Bool, true, false, ◌||◌}
use mathlib.Core.List.{List, [], ◌∷◌}
use mathlib.Core.Option.{Option, none, some}
use native.Mathlib.Omega.{arith}
use lib.ListN.{length}
use Rattle.basics.specs.Each.{Each}
use Rattle.basics.specs.Choice.{choose, or_else}
use Rattle.basics.specs.Text.{octets}
use Rattle.harrop.specs.Formula.{Name, Term, Terms, Atom, Goal, Clause, Step, Strip}
use Rattle.harrop.specs.Bindings.{same_name}
use Rattle.harrop.specs.Place.{Plain}
use Rattle.sexp.specs.Decimal.{decimal}
use Rattle.sexp.specs.Sexp.{Sexp, Sexps, spell}
use Rattle.sexp.specs.Words.{is_name, is_number}
use Rattle.sexp.proofs.WordLaws.{decimal-is}
use Rattle.packet.specs.declared.Kind.{Kind}
use Rattle.packet.specs.declared.Kind.TheVariants as K
use Rattle.packet.specs.declared.Due.{Due}
use Rattle.packet.specs.declared.Due.TheVariants as D
use Rattle.packet.specs.Written.{word, one, two, each, number, term_sexp, term_sexps, atom_sexp, goal_sexp, clause_sexp, step_sexp, path_sexp, strip_sexp, rules_sexp, terms_sexp}
use Rattle.packet.specs.Table.{word_of, rank, rows, due_after, next, may_end}
use Rattle.packet.specs.Wrong.{is_step, is_text, Begins, begins, wrong, wrong_word, wrong_in}
use Rattle.packet.specs.Spells.{NameWords, NumberWords, TermWords, TermsWords, AtomWords, GoalWords, ClauseWords, StepWords, StripWords, Spells}

-- nothing is wrong with an expression of a kind, wherever it starts
pub record Built (k : Kind) (e : Sexp) : Type 0 where
  pub clean : (at : ℕ) → wrong k at e ≡ none

-- nor with members that are due
pub record BuiltIn (due : Due) (xs : Sexps) : Type 0 where
  pub clean : (at : ℕ) → wrong_in due at xs ≡ none

neither : {A : Type 0} (a b : Option A) → a ≡ none → b ≡ none → or_else a b ≡ none
neither a b e f = ap (λ o. or_else o b) e ∙ f

end-built : (due : Due) → may_end due ≡ true → BuiltIn due Sexps.nil
unfolding wrong
end-built due h = record { clean = λ at. ap (λ (t : Bool). choose t none (some at)) h }

next_built : {a : Kind} {x : Sexp} {xs : Sexps} (due rest : Due) → next due ≡ some (a, rest) → Built a x → BuiltIn rest xs → BuiltIn due (Sexps.cons x xs)
unfolding wrong
next_built {a = a} {x = x} {xs = xs} due rest n h g = record {
  clean = λ at. rw (n, wrong_in) (neither (wrong a at x) (wrong_in rest (at + length (spell x)) xs) (h.clean at) (g.clean (at + length (spell x))));
}

pub one-built : {a : Kind} {x : Sexp} → Built a x → BuiltIn (D.One a) (one x)
unfolding next may_end
one-built {a = a} h = next_built (D.One a) D.End refl h (end-built D.End refl)

pub two-built : {a b : Kind} {x y : Sexp} → Built a x → Built b y → BuiltIn (D.Two a b) (two x y)
unfolding next
two-built {a = a} {b = b} h g = next_built (D.Two a b) (D.One b) refl h (one-built g)

-- a list of a kind, by its word
pub list-built : (k : Kind) (w : List ℕ) (due : Due) {xs : Sexps} → begins k ≡ Begins.with_word → due_after k (word_of w) ≡ some due → BuiltIn due xs → Built k (word w xs)
unfolding wrong
list-built k w due {xs = xs} b d h = record {
  clean = λ at.
      ap
      (λ (x : Begins). elim x as (λ y. Option ℕ) [
        | Begins.never ↦ some at
        | Begins.plainly ↦ wrong_in (D.Each K.Step) (at + 1) (Sexps.cons (Sexp.str w) xs)
        | Begins.with_word ↦ wrong_word k (at + 1) (Sexps.cons (Sexp.str w) xs)
      ])
      b
      ∙ ap (λ (o : Option Due). elim o as (λ y. Option ℕ) [ none ↦ some (at + 1) | some x ↦ wrong_in x (at + 1 + length (spell (Sexp.str w))) xs ]) d
      ∙ h.clean (at + 1 + length (spell (Sexp.str w)));
}

-- a string of a kind
pub text-built : (k : Kind) (w : List ℕ) → is_text k w ≡ true → Built k (Sexp.str w)
unfolding wrong
text-built k w h = record { clean = λ at. ap (λ (t : Bool). choose t none (some at)) h }

pub name-built : (w : Name) → NameWords w → Built K.Name (Sexp.str w)
unfolding is_text
name-built w h = text-built K.Name w h

pub number-built : (i : ℕ) → NumberWords i → Built K.Number (number i)
unfolding is_text
number-built i h = text-built K.Number (decimal i) (decimal-is i h)

mutual
  unfolding begins word_of rank rows due_after next may_end

  pub term-built : (t : Term) → TermWords t → Built K.Term (term_sexp t)
  term-built (Term.v i) u = list-built K.Term (octets "v") (D.One K.Number) refl refl (one-built (number-built i u))
  term-built (Term.f g ts) (n, u) =
      list-built K.Term (octets "f") (D.OneEach K.Name K.Term) refl refl
      (next_built (D.OneEach K.Name K.Term) (D.Each K.Term) refl (name-built g n) (terms-built ts u))
  term-built (Term.e k) u = list-built K.Term (octets "e") (D.One K.Number) refl refl (one-built (number-built k u))

  pub terms-built : (ts : Terms) → TermsWords ts → BuiltIn (D.Each K.Term) (term_sexps ts)
  terms-built Terms.nil u = end-built (D.Each K.Term) refl
  terms-built (Terms.cons t ts) (u, v) = next_built (D.Each K.Term) (D.Each K.Term) refl (term-built t u) (terms-built ts v)

-- an atom, alone, as a goal or as a clause
atom-built-as : (k : Kind) → begins k ≡ Begins.with_word → due_after k (word_of (octets "atom")) ≡ some (D.OneEach K.Name K.Term) → (a : Atom) → AtomWords a → Built k (atom_sexp a)
unfolding next
atom-built-as k b d (Atom.atom p ts) (n, u) =
    list-built k (octets "atom") (D.OneEach K.Name K.Term) b d
    (next_built (D.OneEach K.Name K.Term) (D.Each K.Term) refl (name-built p n) (terms-built ts u))

pub atom-built : (a : Atom) → AtomWords a → Built K.Atom (atom_sexp a)
unfolding begins word_of rank rows due_after
atom-built = atom-built-as K.Atom refl refl

mutual
  unfolding begins word_of rank rows due_after next may_end

  pub goal-built : (g : Goal Plain) → GoalWords g → Built K.Goal (goal_sexp g)
  goal-built Goal.top u = list-built K.Goal (octets "top") D.End refl refl (end-built D.End refl)
  goal-built (Goal.atom a) u = atom-built-as K.Goal refl refl a u
  goal-built (Goal.and g h) (u, v) = list-built K.Goal (octets "and") (D.Two K.Goal K.Goal) refl refl (two-built (goal-built g u) (goal-built h v))
  goal-built (Goal.or g h) (u, v) = list-built K.Goal (octets "or") (D.Two K.Goal K.Goal) refl refl (two-built (goal-built g u) (goal-built h v))
  goal-built (Goal.some q g) u = list-built K.Goal (octets "some") (D.One K.Goal) refl refl (one-built (goal-built g u))
  goal-built (Goal.all q g) u = list-built K.Goal (octets "all") (D.One K.Goal) refl refl (one-built (goal-built g u))
  goal-built (Goal.imp d g) (u, v) = list-built K.Goal (octets "imp") (D.Two K.Clause K.Goal) refl refl (two-built (clause-built d u) (goal-built g v))

  pub clause-built : (d : Clause Plain) → ClauseWords d → Built K.Clause (clause_sexp d)
  clause-built (Clause.atom_d a) u = atom-built-as K.Clause refl refl a u
  clause-built (Clause.imp_d g a) (u, v) = list-built K.Clause (octets "imp") (D.Two K.Goal K.Atom) refl refl (two-built (goal-built g u) (atom-built a v))
  clause-built (Clause.all_d q d) u = list-built K.Clause (octets "all") (D.One K.Clause) refl refl (one-built (clause-built d u))
  clause-built (Clause.and_d c d) (u, v) = list-built K.Clause (octets "and") (D.Two K.Clause K.Clause) refl refl (two-built (clause-built c u) (clause-built d v))

-- any number of one kind
pub each-built : {A : Type 0} (k : Kind) (written : A → Sexp) (Words : A → Type 0) → ((a : A) → Words a → Built k (written a)) → (xs : List A) → Each Words xs → BuiltIn (D.Each k) (each written xs)
unfolding next may_end
each-built k written Words h [] u = end-built (D.Each k) refl
each-built k written Words h (x ∷ xs) (u, v) = next_built (D.Each k) (D.Each k) refl (h x u) (each-built k written Words h xs v)

pub rules-built : (ds : List (Clause Plain)) → Each ClauseWords ds → Built K.Rules (rules_sexp ds)
unfolding begins word_of rank rows due_after
rules-built ds u = list-built K.Rules (octets "rules") (D.Each K.Clause) refl refl (each-built K.Clause clause_sexp ClauseWords clause-built ds u)

pub candidates-built : (ts : List Term) → Each TermWords ts → Built K.Terms (terms_sexp ts)
unfolding begins word_of rank rows due_after
candidates-built ts u = list-built K.Terms (octets "terms") (D.Each K.Term) refl refl (each-built K.Term term_sexp TermWords term-built ts u)

or-true : (t : Bool) → t || true ≡ true
or-true true = refl
or-true false = refl

pub step-built : (s : Step) → StepWords s → Built K.Step (step_sexp s)
unfolding is_text is_step
step-built Step.l u = text-built K.Step (octets "l") refl
step-built Step.r u = text-built K.Step (octets "r") refl
step-built (Step.n i) u = text-built K.Step (decimal i) (rw (decimal-is i u) (or-true (same_name (decimal i) (octets "l") || same_name (decimal i) (octets "r"))))

pub path-built : (path : List Step) → Each StepWords path → Built K.Path (path_sexp path)
unfolding wrong begins
path-built path u = record { clean = λ at. (each-built K.Step step_sexp StepWords step-built path u).clean (at + 1) }

use-built : (k : ℕ) (path : List Step) (xs : Sexps) → NumberWords k → Each StepWords path → BuiltIn (D.Perhaps K.Strip) xs → Built K.Strip (word (octets "use") (Sexps.cons (number k) (Sexps.cons (path_sexp path) xs)))
unfolding begins word_of rank rows due_after next
use-built k path xs n u h =
    list-built K.Strip (octets "use") (D.TwoPerhaps K.Number K.Path K.Strip) refl refl
    (next_built (D.TwoPerhaps K.Number K.Path K.Strip) (D.OnePerhaps K.Path K.Strip) refl (number-built k n)
    (next_built (D.OnePerhaps K.Path K.Strip) (D.Perhaps K.Strip) refl (path-built path u) h))

pub strip-built : (P : Strip) → StripWords P → Built K.Strip (strip_sexp P)
unfolding begins word_of rank rows due_after next may_end
strip-built Strip.top u = list-built K.Strip (octets "top") D.End refl refl (end-built D.End refl)
strip-built (Strip.and P R) (u, v) = list-built K.Strip (octets "and") (D.Two K.Strip K.Strip) refl refl (two-built (strip-built P u) (strip-built R v))
strip-built (Strip.left P) u = list-built K.Strip (octets "left") (D.One K.Strip) refl refl (one-built (strip-built P u))
strip-built (Strip.right P) u = list-built K.Strip (octets "right") (D.One K.Strip) refl refl (one-built (strip-built P u))
strip-built (Strip.some i P) (n, u) = list-built K.Strip (octets "some") (D.Two K.Number K.Strip) refl refl (two-built (number-built i n) (strip-built P u))
strip-built (Strip.all P) u = list-built K.Strip (octets "all") (D.One K.Strip) refl refl (one-built (strip-built P u))
strip-built (Strip.imp P) u = list-built K.Strip (octets "imp") (D.One K.Strip) refl refl (one-built (strip-built P u))
strip-built (Strip.use₀ k path) (n, u) = use-built k path Sexps.nil n u (end-built (D.Perhaps K.Strip) refl)
strip-built (Strip.use₁ k path P) (n, u, v) =
    use-built k path (one (strip_sexp P)) n u (next_built (D.Perhaps K.Strip) D.End refl (strip-built P v) (end-built D.End refl))
