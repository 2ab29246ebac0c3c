-- Refusal 5 on expressions is what it is on the trees: no term of what is written is barred exactly if the tree has no variable or parameter barred at its place, wherever it starts.
-- From document 01, "The carrier and the words".
use Prim.Native.Nat.{ℕ, suc, ◌+◌}
use mathlib.Core.Path.{◌≡◌, refl, sym, ◌∙◌, ap, ap₂}
use mathlib.Core.Bool.{Bool, true, false, ◌&&◌, false≢true}
use mathlib.Core.List.{List, [], ◌∷◌}
use mathlib.Core.Option.{Option, none, some}
use lib.Dec.{ltb}
use lib.ListN.{length}
use borrow.Author.Tests.{ltb-true}
use Rattle.basics.specs.Choice.{choose, or_else, both_true}
use Rattle.basics.specs.Text.{octets}
use Rattle.harrop.specs.Formula.{Term, Terms, Atom, Goal, Clause, Step, Strip}
use Rattle.harrop.specs.Place.{Plain}
use Rattle.sexp.specs.Decimal.{decimal}
use Rattle.sexp.specs.Sexp.{Sexp, Sexps, spell}
use Rattle.sexp.specs.Words.{worth}
use Rattle.sexp.proofs.WordLaws.{worth-decimal}
use Rattle.packet.specs.declared.Word.{Word}
use Rattle.packet.specs.declared.Word.TheVariants as W
use Rattle.packet.specs.Written.{word, one, two, number, each, term_sexp, term_sexps, atom_sexp, goal_sexp, clause_sexp, step_sexp, path_sexp, strip_sexp, rules_sexp, terms_sexp}
use Rattle.packet.specs.Table.{words, look_for, word_of}
use Rattle.packet.specs.Barred.{Holds, parameter_ok, term_ok, terms_ok, atom_ok, goal_ok, clause_ok, each_ok, sort_of, number_in, barred, barred_list, barreds}
use Rattle.packet.proofs.ReadLaws.{no-letter}

-- there is no place
abbrev pub clear : Option ℕ → Bool
clear none = true
clear (some at) = false

clear_or : (a b : Option ℕ) → clear (or_else a b) ≡ clear a && clear b
clear_or none b = refl
clear_or (some at) b = refl

clear-choose : (t : Bool) (at : ℕ) → clear (choose t none (some at)) ≡ t
clear-choose true at = refl
clear-choose false at = refl

and-true : (t : Bool) → t && true ≡ t
and-true true = refl
and-true false = refl

-- members: one, two
pub clear-one : (holds : Holds) (n at : ℕ) (x : Sexp) → clear (barreds holds n at (one x)) ≡ clear (barred holds n at x)
unfolding barred
clear-one holds n at x = clear_or (barred holds n at x) none ∙ and-true (clear (barred holds n at x))

pub clear-two : (holds : Holds) (n at : ℕ) (x y : Sexp) → clear (barreds holds n at (two x y)) ≡ clear (barred holds n at x) && clear (barred holds n (at + length (spell x)) y)
unfolding barred
clear-two holds n at x y =
    clear_or (barred holds n at x) (barreds holds n (at + length (spell x)) (one y))
    ∙ ap (λ (t : Bool). clear (barred holds n at x) && t) (clear-one holds n (at + length (spell x)) y)

mutual
  unfolding barred word_of sort_of number_in

  pub term-clear : (holds : Holds) (n at : ℕ) (t : Term) → clear (barred holds n at (term_sexp t)) ≡ term_ok holds n t
  term-clear holds n at (Term.v i) = clear-choose (ltb (worth (decimal i)) n) at ∙ ap (λ (x : ℕ). ltb x n) (worth-decimal i)
  term-clear holds n at (Term.f g ts) = terms-clear holds n (at + 1 + length (spell (Sexp.str (octets "f"))) + length (spell (Sexp.str g))) ts
  term-clear holds n at (Term.e k) = clear-choose (parameter_ok holds (worth (decimal k))) at ∙ ap (parameter_ok holds) (worth-decimal k)

  pub terms-clear : (holds : Holds) (n at : ℕ) (ts : Terms) → clear (barreds holds n at (term_sexps ts)) ≡ terms_ok holds n ts
  terms-clear holds n at Terms.nil = refl
  terms-clear holds n at (Terms.cons t ts) =
      clear_or (barred holds n at (term_sexp t)) (barreds holds n (at + length (spell (term_sexp t))) (term_sexps ts))
      ∙ ap₂ ◌&&◌ (term-clear holds n at t) (terms-clear holds n (at + length (spell (term_sexp t))) ts)

pub atom-clear : (n at : ℕ) (a : Atom) → clear (barred false n at (atom_sexp a)) ≡ atom_ok n a
unfolding barred word_of sort_of
atom-clear n at (Atom.atom p ts) = terms-clear false n (at + 1 + length (spell (Sexp.str (octets "atom"))) + length (spell (Sexp.str p))) ts

-- where the members after a word start
after : ℕ → List ℕ → ℕ
after at w = at + 1 + length (spell (Sexp.str w))

mutual
  unfolding barred word_of sort_of after

  pub goal-clear : (n at : ℕ) (g : Goal Plain) → clear (barred false n at (goal_sexp g)) ≡ goal_ok n g
  goal-clear n at Goal.top = refl
  goal-clear n at (Goal.atom a) = atom-clear n at a
  goal-clear n at (Goal.and g h) =
      clear-two false n (after at (octets "and")) (goal_sexp g) (goal_sexp h)
      ∙ ap₂ ◌&&◌ (goal-clear n (after at (octets "and")) g) (goal-clear n (after at (octets "and") + length (spell (goal_sexp g))) h)
  goal-clear n at (Goal.or g h) =
      clear-two false n (after at (octets "or")) (goal_sexp g) (goal_sexp h)
      ∙ ap₂ ◌&&◌ (goal-clear n (after at (octets "or")) g) (goal-clear n (after at (octets "or") + length (spell (goal_sexp g))) h)
  goal-clear n at (Goal.some q g) = clear-one false (suc n) (after at (octets "some")) (goal_sexp g) ∙ goal-clear (suc n) (after at (octets "some")) g
  goal-clear n at (Goal.all q g) = clear-one false (suc n) (after at (octets "all")) (goal_sexp g) ∙ goal-clear (suc n) (after at (octets "all")) g
  goal-clear n at (Goal.imp d g) =
      clear-two false n (after at (octets "imp")) (clause_sexp d) (goal_sexp g)
      ∙ ap₂ ◌&&◌ (clause-clear n (after at (octets "imp")) d) (goal-clear n (after at (octets "imp") + length (spell (clause_sexp d))) g)

  pub clause-clear : (n at : ℕ) (d : Clause Plain) → clear (barred false n at (clause_sexp d)) ≡ clause_ok n d
  clause-clear n at (Clause.atom_d a) = atom-clear n at a
  clause-clear n at (Clause.imp_d g a) =
      clear-two false n (after at (octets "imp")) (goal_sexp g) (atom_sexp a)
      ∙ ap₂ ◌&&◌ (goal-clear n (after at (octets "imp")) g) (atom-clear n (after at (octets "imp") + length (spell (goal_sexp g))) a)
  clause-clear n at (Clause.all_d q d) = clear-one false (suc n) (after at (octets "all")) (clause_sexp d) ∙ clause-clear (suc n) (after at (octets "all")) d
  clause-clear n at (Clause.and_d c d) =
      clear-two false n (after at (octets "and")) (clause_sexp c) (clause_sexp d)
      ∙ ap₂ ◌&&◌ (clause-clear n (after at (octets "and")) c) (clause-clear n (after at (octets "and") + length (spell (clause_sexp c))) d)

-- all of a list
pub each-clear : {A : Type 0} (holds : Holds) (n : ℕ) (written : A → Sexp) (ok : A → Bool) → ((at : ℕ) (a : A) → clear (barred holds n at (written a)) ≡ ok a) → (at : ℕ) (xs : List A) → clear (barreds holds n at (each written xs)) ≡ each_ok ok xs
unfolding barred
each-clear holds n written ok h at [] = refl
each-clear holds n written ok h at (x ∷ xs) =
    clear_or (barred holds n at (written x)) (barreds holds n (at + length (spell (written x))) (each written xs))
    ∙ ap₂ ◌&&◌ (h at x) (each-clear holds n written ok h (at + length (spell (written x))) xs)

pub rules-clear : (n at : ℕ) (ds : List (Clause Plain)) → clear (barred false n at (rules_sexp ds)) ≡ each_ok (clause_ok n) ds
unfolding barred word_of sort_of after
rules-clear n at ds = each-clear false n clause_sexp (clause_ok n) (clause-clear n) (after at (octets "rules")) ds

pub candidates-clear : (n at : ℕ) (ts : List Term) → clear (barred true n at (terms_sexp ts)) ≡ each_ok (term_ok true n) ts
unfolding barred word_of sort_of after
candidates-clear n at ts = each-clear true n term_sexp (term_ok true n) (term-clear true n) (after at (octets "terms")) ts

-- a strip holds neither word: nothing in it is barred
steps-clear : (holds : Holds) (n at : ℕ) (path : List Step) → barreds holds n at (each step_sexp path) ≡ none
unfolding barred
steps-clear holds n at [] = refl
steps-clear holds n at (Step.l ∷ path) = steps-clear holds n (at + length (spell (Sexp.str (octets "l")))) path
steps-clear holds n at (Step.r ∷ path) = steps-clear holds n (at + length (spell (Sexp.str (octets "r")))) path
steps-clear holds n at (Step.n i ∷ path) = steps-clear holds n (at + length (spell (Sexp.str (decimal i)))) path

-- no number is a word
lettered : List ℕ → Bool
lettered [] = false
lettered (c ∷ w) = ltb 57 c

no-word-in : (i : ℕ) (rs : List (List ℕ × Word)) → each_ok (λ r. lettered r.0) rs ≡ true → look_for (decimal i) rs ≡ W.Nothing
unfolding lettered
no-word-in i [] h = refl
no-word-in i (([], x) ∷ rs) h = absurd (false≢true h)
no-word-in i ((c ∷ w, x) ∷ rs) h =
    let (l, r) = both_true (ltb 57 c) (each_ok (λ y. lettered y.0) rs) h in
    ap (λ (t : Bool). choose t x (look_for (decimal i) rs)) (no-letter i c w (ltb-true 57 c l)) ∙ no-word-in i rs r

pub no-word : (i : ℕ) → word_of (decimal i) ≡ W.Nothing
unfolding word_of lettered
no-word i = no-word-in i words refl

path-clear : (holds : Holds) (n at : ℕ) (path : List Step) → barred holds n at (path_sexp path) ≡ none
unfolding barred word_of sort_of after
path-clear holds n at [] = refl
path-clear holds n at (Step.l ∷ path) = steps-clear holds n (after at (octets "l")) path
path-clear holds n at (Step.r ∷ path) = steps-clear holds n (after at (octets "r")) path
path-clear holds n at (Step.n i ∷ path) = rw (no-word i, barred_list) (steps-clear holds n (after at (decimal i)) path)

-- members, none of which is barred
clear-cons : (holds : Holds) (n at : ℕ) (x : Sexp) (xs : Sexps) → barred holds n at x ≡ none → barreds holds n (at + length (spell x)) xs ≡ none → barreds holds n at (Sexps.cons x xs) ≡ none
unfolding barred
clear-cons holds n at x xs h g = ap (λ (o : Option ℕ). or_else o (barreds holds n (at + length (spell x)) xs)) h ∙ g

-- after a number, or none
use-clear : (holds : Holds) (n at k : ℕ) (path : List Step) (xs : Sexps) → ((to : ℕ) → barreds holds n to xs ≡ none) → barred holds n at (word (octets "use") (Sexps.cons (number k) (Sexps.cons (path_sexp path) xs))) ≡ none
unfolding barred word_of sort_of after
use-clear holds n at k path xs h =
    let to = after at (octets "use") + length (spell (number k)) in
    clear-cons holds n to (path_sexp path) xs (path-clear holds n to path) (h (to + length (spell (path_sexp path))))

pub strip-clear : (holds : Holds) (P : Strip) (n at : ℕ) → barred holds n at (strip_sexp P) ≡ none
unfolding barred word_of sort_of after
strip-clear holds Strip.top n at = refl
strip-clear holds (Strip.and P R) n at =
    let to = after at (octets "and") in
    clear-cons holds n to (strip_sexp P) (one (strip_sexp R)) (strip-clear holds P n to)
    (clear-cons holds n (to + length (spell (strip_sexp P))) (strip_sexp R) Sexps.nil (strip-clear holds R n (to + length (spell (strip_sexp P)))) refl)
strip-clear holds (Strip.left P) n at = clear-cons holds n (after at (octets "left")) (strip_sexp P) Sexps.nil (strip-clear holds P n (after at (octets "left"))) refl
strip-clear holds (Strip.right P) n at = clear-cons holds n (after at (octets "right")) (strip_sexp P) Sexps.nil (strip-clear holds P n (after at (octets "right"))) refl
strip-clear holds (Strip.some i P) n at =
    let to = after at (octets "some") + length (spell (number i)) in
    clear-cons holds (suc n) to (strip_sexp P) Sexps.nil (strip-clear holds P (suc n) to) refl
strip-clear holds (Strip.all P) n at = clear-cons holds (suc n) (after at (octets "all")) (strip_sexp P) Sexps.nil (strip-clear holds P (suc n) (after at (octets "all"))) refl
strip-clear holds (Strip.imp P) n at = clear-cons holds n (after at (octets "imp")) (strip_sexp P) Sexps.nil (strip-clear holds P n (after at (octets "imp"))) refl
strip-clear holds (Strip.use₀ k path) n at = use-clear holds n at k path Sexps.nil (λ to. refl)
strip-clear holds (Strip.use₁ k path P) n at =
    use-clear holds n at k path (one (strip_sexp P)) (λ to. clear-cons holds n to (strip_sexp P) Sexps.nil (strip-clear holds P n to) refl)
