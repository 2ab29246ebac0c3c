-- The table of words says exactly what document 01's files are: nothing is wrong with an expression of a kind exactly if it is something of that kind, written, with document 01's
-- names and numbers; and reading gives x exactly if the expression is x written so. So a file means at most one thing.
use Prim.Native.Nat.{ℕ}
use mathlib.Core.Path.{◌≡◌, refl, sym, ◌∙◌, ap, subst}
use mathlib.Core.Bool.{Bool, true, false, false≢true}
use mathlib.Core.List.{List}
use mathlib.Core.Logic.{◌↔◌}
use mathlib.Core.Option.{Option, none, some, some-injective}
use Rattle.basics.specs.Each.{Each}
use Rattle.basics.specs.Choice.{maybe, provided, provided-some}
use Rattle.harrop.specs.Formula.{Term, Atom, Goal, Clause, Step, Strip}
use Rattle.harrop.specs.Place.{Plain}
use Rattle.sexp.specs.Sexp.{Sexp}
use Rattle.packet.specs.declared.Kind.{Kind}
use Rattle.packet.specs.declared.Kind.TheVariants as K
use Rattle.packet.specs.Written.{number, term_sexp, atom_sexp, goal_sexp, clause_sexp, step_sexp, path_sexp, strip_sexp, rules_sexp, terms_sexp}
use Rattle.packet.specs.Wrong.{wrong}
use Rattle.packet.specs.Read.{term_of, atom_of, goal_of, clause_of, path_of, strip_of, rules_of, candidates_of, built, read_as, as_term, as_atom, as_goal, as_clause, as_path, as_strip, as_rules, as_candidates}
use Rattle.packet.specs.Spells.{NameWords, NumberWords, TermWords, AtomWords, GoalWords, ClauseWords, StepWords, StripWords, Is, Spells}
use Rattle.packet.proofs.ReadLaws.{term-read, atom-read, goal-read, clause-read, path-read, strip-read, rules-read, candidates-read}
use Rattle.packet.proofs.BuiltLaws.{Built, name-built, number-built, term-built, atom-built, goal-built, clause-built, step-built, path-built, strip-built, rules-built, candidates-built}
use Rattle.packet.proofs.SpellsLaws.{built-spells}

is-built : {A : Type 0} (k : Kind) (written : A → Sexp) (Words : A → Type 0) → ((a : A) → Words a → Built k (written a)) → (e : Sexp) → Is written Words e → Built k e
is-built k written Words f e (a, p, u) = subst (Built k) (sym p) (f a u)

pub spells-built : (k : Kind) (e : Sexp) → Spells k e → Built k e
spells-built K.Name = is-built K.Name Sexp.str NameWords name-built
spells-built K.Number = is-built K.Number number NumberWords number-built
spells-built K.Step = is-built K.Step step_sexp StepWords step-built
spells-built K.Path = is-built K.Path path_sexp (Each StepWords) path-built
spells-built K.Term = is-built K.Term term_sexp TermWords term-built
spells-built K.Atom = is-built K.Atom atom_sexp AtomWords atom-built
spells-built K.Goal = is-built K.Goal goal_sexp GoalWords goal-built
spells-built K.Clause = is-built K.Clause clause_sexp ClauseWords clause-built
spells-built K.Rules = is-built K.Rules rules_sexp (Each ClauseWords) rules-built
spells-built K.Terms = is-built K.Terms terms_sexp (Each TermWords) candidates-built
spells-built K.Strip = is-built K.Strip strip_sexp StripWords strip-built

-- the table, exactly
pub built-exactly : (k : Kind) (at : ℕ) (e : Sexp) → wrong k at e ≡ none ↔ Spells k e
built-exactly k at e = (λ h. built-spells e k at h, λ s. (spells-built k e s).clean at)

pub built-true : (k : Kind) (e : Sexp) → built k e ≡ true → wrong k 0 e ≡ none
unfolding built
built-true k e = go (wrong k 0 e)
  where
    go : (o : Option ℕ) → maybe o true (λ at. false) ≡ true → o ≡ none
    go none h = refl
    go (some at) h = absurd (false≢true h)

pub true-built : (k : Kind) (e : Sexp) → wrong k 0 e ≡ none → built k e ≡ true
unfolding built
true-built k e h = ap (λ (o : Option ℕ). maybe o true λ at. false) h

module _ {A : Type 0} (k : Kind) (written : A → Sexp) (Words : A → Type 0) (of : Sexp → A) (undo : (a : A) → of (written a) ≡ a) (spelt : (e : Sexp) → Spells k e ↔ Is written Words e) where
  read-exactly : (e : Sexp) (a : A) → read_as k of e ≡ some a ↔ ((e ≡ written a) × Words a)
  read-exactly e a = (to, from)
    where
      to : read_as k of e ≡ some a → (e ≡ written a) × Words a
      to h =
          let (t, f) = provided-some (built k e) (some (of e)) a h in
          let (b, p, u) = (spelt e).0 (built-spells e k 0 (built-true k e t)) in
          let q : b ≡ a = sym (undo b) ∙ ap of (sym p) ∙ some-injective (of e) a f in
          (p ∙ ap written q, subst Words q u)

      from : (e ≡ written a) × Words a → read_as k of e ≡ some a
      from (p, u) =
          let t = true-built k e ((spells-built k e ((spelt e).1 (a, p, u))).clean 0) in
          ap (λ (b : Bool). provided b (some (of e))) t ∙ ap some (ap of p ∙ undo a)

-- each kind: reading gives x exactly if the expression is x written, with document 01's names and numbers
same : {A : Type 0} → A ↔ A
same = (λ x. x, λ x. x)

pub term-exactly : (e : Sexp) (t : Term) → as_term e ≡ some t ↔ ((e ≡ term_sexp t) × TermWords t)
unfolding as_term
term-exactly = read-exactly K.Term term_sexp TermWords term_of term-read λ e. same

pub atom-exactly : (e : Sexp) (a : Atom) → as_atom e ≡ some a ↔ ((e ≡ atom_sexp a) × AtomWords a)
unfolding as_atom
atom-exactly = read-exactly K.Atom atom_sexp AtomWords atom_of atom-read λ e. same

pub goal-exactly : (e : Sexp) (g : Goal Plain) → as_goal e ≡ some g ↔ ((e ≡ goal_sexp g) × GoalWords g)
unfolding as_goal
goal-exactly = read-exactly K.Goal goal_sexp GoalWords goal_of goal-read λ e. same

pub clause-exactly : (e : Sexp) (d : Clause Plain) → as_clause e ≡ some d ↔ ((e ≡ clause_sexp d) × ClauseWords d)
unfolding as_clause
clause-exactly = read-exactly K.Clause clause_sexp ClauseWords clause_of clause-read λ e. same

pub path-exactly : (e : Sexp) (path : List Step) → as_path e ≡ some path ↔ ((e ≡ path_sexp path) × Each StepWords path)
unfolding as_path
path-exactly = read-exactly K.Path path_sexp (Each StepWords) path_of path-read λ e. same

pub strip-exactly : (e : Sexp) (P : Strip) → as_strip e ≡ some P ↔ ((e ≡ strip_sexp P) × StripWords P)
unfolding as_strip
strip-exactly = read-exactly K.Strip strip_sexp StripWords strip_of strip-read λ e. same

pub rules-exactly : (e : Sexp) (ds : List (Clause Plain)) → as_rules e ≡ some ds ↔ ((e ≡ rules_sexp ds) × Each ClauseWords ds)
unfolding as_rules
rules-exactly = read-exactly K.Rules rules_sexp (Each ClauseWords) rules_of rules-read λ e. same

pub candidates-exactly : (e : Sexp) (ts : List Term) → as_candidates e ≡ some ts ↔ ((e ≡ terms_sexp ts) × Each TermWords ts)
unfolding as_candidates
candidates-exactly = read-exactly K.Terms terms_sexp (Each TermWords) candidates_of candidates-read λ e. same
