-- What is written is read back: the readers undo the writers. From document 01, the table of words.
use Prim.Native.Nat.{ℕ, ◌<◌}
use mathlib.Core.Path.{◌≡◌, refl, sym, ◌∙◌, ap, ap₂}
use mathlib.Core.Bool.{Bool, true, false, ◌&&◌}
use mathlib.Core.List.{List, [], ◌∷◌}
use native.Mathlib.Omega.{arith}
use borrow.Author.Tests.{ne_eqb}
use Rattle.basics.specs.Text.{octets}
use Rattle.harrop.specs.Formula.{Term, Terms, Atom, Goal, Clause, Step, Strip}
use Rattle.harrop.specs.Bindings.{same_name}
use Rattle.harrop.specs.Place.{Plain}
use Rattle.sexp.specs.Decimal.{decimal}
use Rattle.sexp.specs.Sexp.{Sexp, Sexps}
use Rattle.sexp.specs.Words.{worth}
use Rattle.sexp.proofs.DecimalLaws.{onto-first}
use Rattle.sexp.proofs.WordLaws.{worth-decimal}
use Rattle.packet.specs.Written.{each, term_sexp, term_sexps, atom_sexp, goal_sexp, clause_sexp, step_sexp, path_sexp, strip_sexp, rules_sexp, terms_sexp}
use Rattle.packet.specs.Table.{word_of, rank}
use Rattle.packet.specs.Barred.{number_in}
use Rattle.packet.specs.Read.{name_in, term_of, terms_in, atom_in, atom_of, atom_second, goal_of, clause_of, all_of, members_of, rest_of, rules_of, candidates_of, step_of, path_of, strip_of}

mutual
  unfolding word_of rank number_in name_in term_of

  pub term-read : (t : Term) → term_of (term_sexp t) ≡ t
  term-read (Term.v i) = ap Term.v (worth-decimal i)
  term-read (Term.f g ts) = ap (Term.f g) (terms-read ts)
  term-read (Term.e k) = ap Term.e (worth-decimal k)

  pub terms-read : (ts : Terms) → terms_in (term_sexps ts) ≡ ts
  terms-read Terms.nil = refl
  terms-read (Terms.cons t ts) = ap₂ Terms.cons (term-read t) (terms-read ts)

pub atom-read : (a : Atom) → atom_of (atom_sexp a) ≡ a
unfolding atom_of atom_in name_in term_of
atom-read (Atom.atom p ts) = ap (Atom.atom p) (terms-read ts)

goal-atom : (a : Atom) → goal_of (atom_sexp a) ≡ Goal.atom a
unfolding word_of rank goal_of atom_in name_in term_of
goal-atom (Atom.atom p ts) = ap (λ (us : Terms). Goal.atom (Atom.atom p us)) (terms-read ts)

clause-atom : (a : Atom) → clause_of (atom_sexp a) ≡ Clause.atom_d a
unfolding word_of rank goal_of atom_in name_in term_of
clause-atom (Atom.atom p ts) = ap (λ (us : Terms). Clause.atom_d (Atom.atom p us)) (terms-read ts)

mutual
  unfolding word_of rank goal_of atom_second

  pub goal-read : (g : Goal Plain) → goal_of (goal_sexp g) ≡ g
  goal-read Goal.top = refl
  goal-read (Goal.atom a) = goal-atom a
  goal-read (Goal.and g h) = ap₂ Goal.and (goal-read g) (goal-read h)
  goal-read (Goal.or g h) = ap₂ Goal.or (goal-read g) (goal-read h)
  goal-read (Goal.some q g) = ap (Goal.some q) (goal-read g)
  goal-read (Goal.all q g) = ap (Goal.all q) (goal-read g)
  goal-read (Goal.imp d g) = ap₂ Goal.imp (clause-read d) (goal-read g)

  pub clause-read : (d : Clause Plain) → clause_of (clause_sexp d) ≡ d
  clause-read (Clause.atom_d a) = clause-atom a
  clause-read (Clause.imp_d g a) = ap₂ Clause.imp_d (goal-read g) (atom-read a)
  clause-read (Clause.all_d q d) = ap (Clause.all_d q) (clause-read d)
  clause-read (Clause.and_d c d) = ap₂ Clause.and_d (clause-read c) (clause-read d)

-- all of a list
pub each_read : {A : Type 0} (of : Sexp → A) (written : A → Sexp) → ((a : A) → of (written a) ≡ a) → (xs : List A) → all_of of (each written xs) ≡ xs
each_read of written h [] = refl
each_read of written h (x ∷ xs) = ap₂ (λ y ys. y ∷ ys) (h x) (each_read of written h xs)

pub rules-read : (ds : List (Clause Plain)) → rules_of (rules_sexp ds) ≡ ds
unfolding rules_of members_of rest_of
rules-read ds = each_read clause_of clause_sexp clause-read ds

pub candidates-read : (ts : List Term) → candidates_of (terms_sexp ts) ≡ ts
unfolding candidates_of members_of rest_of
candidates-read ts = each_read term_of term_sexp term-read ts

-- no number begins with a letter
pub no-letter : (i c : ℕ) (cs : List ℕ) → 57 < c → same_name (decimal i) (c ∷ cs) ≡ false
unfolding decimal
no-letter i c cs h =
    let (d, r, e, l) = onto-first i [] in
    ap (λ (w : List ℕ). same_name w (c ∷ cs)) e ∙ ap (λ (b : Bool). b && same_name r cs) (ne_eqb d c (λ x. omega (arith, l, x)))

pub step-read : (s : Step) → step_of (step_sexp s) ≡ s
unfolding step_of
step-read Step.l = refl
step-read Step.r = refl
step-read (Step.n i) = rw (no-letter i 108 [] (omega arith)) (rw (no-letter i 114 [] (omega arith)) (ap Step.n (worth-decimal i)))

pub path-read : (path : List Step) → path_of (path_sexp path) ≡ path
unfolding path_of members_of
path-read path = each_read step_of step_sexp step-read path

pub strip-read : (P : Strip) → strip_of (strip_sexp P) ≡ P
unfolding word_of rank number_in strip_of
strip-read Strip.top = refl
strip-read (Strip.and P R) = ap₂ Strip.and (strip-read P) (strip-read R)
strip-read (Strip.left P) = ap Strip.left (strip-read P)
strip-read (Strip.right P) = ap Strip.right (strip-read P)
strip-read (Strip.some i P) = ap₂ Strip.some (worth-decimal i) (strip-read P)
strip-read (Strip.all P) = ap Strip.all (strip-read P)
strip-read (Strip.imp P) = ap Strip.imp (strip-read P)
strip-read (Strip.use₀ k path) = ap₂ Strip.use₀ (worth-decimal k) (path-read path)
strip-read (Strip.use₁ k path P) =
    ap₂ (λ x y. Strip.use₁ x y (strip_of (strip_sexp P))) (worth-decimal k) (path-read path) ∙ ap (Strip.use₁ k path) (strip-read P)
