-- Expressions read back by the table of words (document 01, "The carrier and the words"), by plain recursion on the expression.
-- A reader looks at a list's word and takes the members as they are due; it tests nothing. `built` tests: an expression is read as a kind only where Wrong has no place in it.
use Rattle.std.specs.Prelude.{ℕ, Bool, true, false, List, [], ◌∷◌, eqb}
use Rattle.std.proofs.Math.Option.{Option, none, some}
use Rattle.basics.specs.Choice.{choose, maybe, provided}
use Rattle.basics.specs.Text.{octets}
use Rattle.harrop.specs.Formula.{Name, Term, Terms, Atom, Goal, Clause, Step, Strip}
use Rattle.harrop.specs.Bindings.{same_name, nothing}
use Rattle.harrop.specs.Place.{Plain}
use Rattle.sexp.specs.Sexp.{Sexp, Sexps}
use Rattle.sexp.specs.Words.{worth}
use Rattle.packet.specs.declared.Word.{Word}
use Rattle.packet.specs.declared.Word.TheVariants as W
use Rattle.packet.specs.declared.Kind.{Kind}
use Rattle.packet.specs.declared.Kind.TheVariants as K
use Rattle.packet.specs.Table.{word_of, rank}
use Rattle.packet.specs.Wrong.{wrong}
use Rattle.packet.specs.Barred.{number_in}

-- what the row with this word makes; the first argument where there is none
abbrev pub pick : {A : Type 0} → A → Word → List (Word × (Unit {0} → A)) → A
pick a w [] = a
pick a w (r ∷ rs) = elim (eqb (rank w) (rank r.0)) [ true ↦ r.1 tt | false ↦ pick a w rs ]

-- the first of these members, where it is a string
unfoldable pub name_in : Sexps → Name
name_in Sexps.nil = []
name_in (Sexps.cons (Sexp.str w) xs) = w
name_in (Sexps.cons (Sexp.hinted h w) xs) = []
name_in (Sexps.cons (Sexp.list ys) xs) = []

-- a term; `e` 0 where there is none
unfoldable mutual
  pub term_of : Sexp → Term
  term_of (Sexp.str w) = nothing
  term_of (Sexp.hinted h w) = nothing
  term_of (Sexp.list xs) = term_in xs

  pub term_in : Sexps → Term
  term_in Sexps.nil = nothing
  term_in (Sexps.cons (Sexp.hinted h w) xs) = nothing
  term_in (Sexps.cons (Sexp.list ys) xs) = nothing
  term_in (Sexps.cons (Sexp.str w) xs) =
      pick nothing (word_of w)
      ((W.V, λ u. Term.v (number_in xs)) ∷ (W.F, λ u. Term.f (name_in xs) (terms_after xs)) ∷ (W.E, λ u. Term.e (number_in xs)) ∷ [])

  -- the members after the first
  pub terms_after : Sexps → Terms
  terms_after Sexps.nil = Terms.nil
  terms_after (Sexps.cons x xs) = terms_in xs

  pub terms_in : Sexps → Terms
  terms_in Sexps.nil = Terms.nil
  terms_in (Sexps.cons x xs) = Terms.cons (term_of x) (terms_in xs)

-- an atom, from the members after its word
unfoldable pub atom_in : Sexps → Atom
atom_in xs = Atom.atom (name_in xs) (terms_after xs)

unfoldable pub atom_of : Sexp → Atom
atom_of (Sexp.str w) = atom_in Sexps.nil
atom_of (Sexp.hinted h w) = atom_in Sexps.nil
atom_of (Sexp.list Sexps.nil) = atom_in Sexps.nil
atom_of (Sexp.list (Sexps.cons x xs)) = atom_in xs

unfoldable pub atom_second : Sexps → Atom
atom_second Sexps.nil = atom_in Sexps.nil
atom_second (Sexps.cons x Sexps.nil) = atom_in Sexps.nil
atom_second (Sexps.cons x (Sexps.cons y xs)) = atom_of y

-- a goal or a clause; `top`, and an atom, where there is none
unfoldable mutual
  pub goal_of : Sexp → Goal Plain
  goal_of (Sexp.str w) = Goal.top
  goal_of (Sexp.hinted h w) = Goal.top
  goal_of (Sexp.list xs) = goal_in xs

  pub goal_in : Sexps → Goal Plain
  goal_in Sexps.nil = Goal.top
  goal_in (Sexps.cons (Sexp.hinted h w) xs) = Goal.top
  goal_in (Sexps.cons (Sexp.list ys) xs) = Goal.top
  goal_in (Sexps.cons (Sexp.str w) xs) =
      pick Goal.top (word_of w)
      ((W.Top, λ u. Goal.top)
      ∷ (W.Atom, λ u. Goal.atom (atom_in xs))
      ∷ (W.And, λ u. Goal.and (goal_first xs) (goal_second xs))
      ∷ (W.Or, λ u. Goal.or (goal_first xs) (goal_second xs))
      ∷ (W.Some, λ u. Goal.some tt (goal_first xs))
      ∷ (W.All, λ u. Goal.all tt (goal_first xs))
      ∷ (W.Imp, λ u. Goal.imp (clause_first xs) (goal_second xs))
      ∷ [])

  pub goal_first : Sexps → Goal Plain
  goal_first Sexps.nil = Goal.top
  goal_first (Sexps.cons x xs) = goal_of x

  pub goal_second : Sexps → Goal Plain
  goal_second Sexps.nil = Goal.top
  goal_second (Sexps.cons x xs) = goal_first xs

  pub clause_of : Sexp → Clause Plain
  clause_of (Sexp.str w) = Clause.atom_d (atom_in Sexps.nil)
  clause_of (Sexp.hinted h w) = Clause.atom_d (atom_in Sexps.nil)
  clause_of (Sexp.list xs) = clause_in xs

  pub clause_in : Sexps → Clause Plain
  clause_in Sexps.nil = Clause.atom_d (atom_in Sexps.nil)
  clause_in (Sexps.cons (Sexp.hinted h w) xs) = Clause.atom_d (atom_in Sexps.nil)
  clause_in (Sexps.cons (Sexp.list ys) xs) = Clause.atom_d (atom_in Sexps.nil)
  clause_in (Sexps.cons (Sexp.str w) xs) =
      pick (Clause.atom_d (atom_in Sexps.nil)) (word_of w)
      ((W.Atom, λ u. Clause.atom_d (atom_in xs))
      ∷ (W.Imp, λ u. Clause.imp_d (goal_first xs) (atom_second xs))
      ∷ (W.All, λ u. Clause.all_d tt (clause_first xs))
      ∷ (W.And, λ u. Clause.and_d (clause_first xs) (clause_second xs))
      ∷ [])

  pub clause_first : Sexps → Clause Plain
  clause_first Sexps.nil = Clause.atom_d (atom_in Sexps.nil)
  clause_first (Sexps.cons x xs) = clause_of x

  pub clause_second : Sexps → Clause Plain
  clause_second Sexps.nil = Clause.atom_d (atom_in Sexps.nil)
  clause_second (Sexps.cons x xs) = clause_first xs

-- each member of a list, read in its turn
abbrev pub all_of : {A : Type 0} → (Sexp → A) → Sexps → List A
all_of f Sexps.nil = []
all_of f (Sexps.cons x xs) = f x ∷ all_of f xs

-- the members of a list, and those after its word
unfoldable pub members_of : Sexp → Sexps
members_of (Sexp.str w) = Sexps.nil
members_of (Sexp.hinted h w) = Sexps.nil
members_of (Sexp.list xs) = xs

unfoldable pub rest_of : Sexps → Sexps
rest_of Sexps.nil = Sexps.nil
rest_of (Sexps.cons x xs) = xs

unfoldable pub rules_of : Sexp → List (Clause Plain)
rules_of e = all_of clause_of (rest_of (members_of e))

unfoldable pub candidates_of : Sexp → List Term
candidates_of e = all_of term_of (rest_of (members_of e))

-- a step of a path: `l`, `r` or a number
unfoldable pub step_of : Sexp → Step
step_of (Sexp.str w) = choose (same_name w (octets "l")) Step.l (choose (same_name w (octets "r")) Step.r (Step.n (worth w)))
step_of (Sexp.hinted h w) = Step.l
step_of (Sexp.list xs) = Step.l

unfoldable pub path_of : Sexp → List Step
path_of e = all_of step_of (members_of e)

-- a strip; `top` where there is none
unfoldable mutual
  pub strip_of : Sexp → Strip
  strip_of (Sexp.str w) = Strip.top
  strip_of (Sexp.hinted h w) = Strip.top
  strip_of (Sexp.list xs) = strip_in xs

  pub strip_in : Sexps → Strip
  strip_in Sexps.nil = Strip.top
  strip_in (Sexps.cons (Sexp.hinted h w) xs) = Strip.top
  strip_in (Sexps.cons (Sexp.list ys) xs) = Strip.top
  strip_in (Sexps.cons (Sexp.str w) xs) =
      pick Strip.top (word_of w)
      ((W.Top, λ u. Strip.top)
      ∷ (W.And, λ u. Strip.and (strip_first xs) (strip_second xs))
      ∷ (W.Left, λ u. Strip.left (strip_first xs))
      ∷ (W.Right, λ u. Strip.right (strip_first xs))
      ∷ (W.Some, λ u. Strip.some (number_in xs) (strip_second xs))
      ∷ (W.All, λ u. Strip.all (strip_first xs))
      ∷ (W.Imp, λ u. Strip.imp (strip_first xs))
      ∷ (W.Use, λ u. strip_use (number_in xs) xs)
      ∷ [])

  pub strip_first : Sexps → Strip
  strip_first Sexps.nil = Strip.top
  strip_first (Sexps.cons x xs) = strip_of x

  pub strip_second : Sexps → Strip
  strip_second Sexps.nil = Strip.top
  strip_second (Sexps.cons x xs) = strip_first xs

  -- a `use` of clause k: the path is its second member, and a third part is there or not
  pub strip_use : ℕ → Sexps → Strip
  strip_use k Sexps.nil = Strip.top
  strip_use k (Sexps.cons x xs) = strip_path k xs

  pub strip_path : ℕ → Sexps → Strip
  strip_path k Sexps.nil = Strip.top
  strip_path k (Sexps.cons x xs) = strip_third k (path_of x) xs

  pub strip_third : ℕ → List Step → Sexps → Strip
  strip_third k path Sexps.nil = Strip.use₀ k path
  strip_third k path (Sexps.cons x xs) = Strip.use₁ k path (strip_of x)

-- built from the table of words
unfoldable pub built : Kind → Sexp → Bool
built k e = maybe (wrong k 0 e) true λ at. false

-- read as a kind
abbrev pub read_as : {A : Type 0} → Kind → (Sexp → A) → Sexp → Option A
read_as k of e = provided (built k e) (some (of e))

unfoldable pub as_term : Sexp → Option Term
as_term = read_as K.Term term_of

unfoldable pub as_atom : Sexp → Option Atom
as_atom = read_as K.Atom atom_of

unfoldable pub as_goal : Sexp → Option (Goal Plain)
as_goal = read_as K.Goal goal_of

unfoldable pub as_clause : Sexp → Option (Clause Plain)
as_clause = read_as K.Clause clause_of

unfoldable pub as_path : Sexp → Option (List Step)
as_path = read_as K.Path path_of

unfoldable pub as_strip : Sexp → Option Strip
as_strip = read_as K.Strip strip_of

unfoldable pub as_rules : Sexp → Option (List (Clause Plain))
as_rules = read_as K.Rules rules_of

unfoldable pub as_candidates : Sexp → Option (List Term)
as_candidates = read_as K.Terms candidates_of
