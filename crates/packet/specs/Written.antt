-- How terms, atoms, goals, clauses, paths, strips and files are written as expressions: document 01's table of words, from left to right.
-- Every list begins with its word, but for a path. In request Twelve a quantifier writes its sort before its body.
use Rattle.std.specs.Prelude.{ℕ, List, [], ◌∷◌}
use Rattle.basics.specs.Text.{octets}
use Rattle.sexp.specs.Decimal.{decimal}
use Rattle.sexp.specs.Sexp.{Sexp, Sexps}
use Rattle.harrop.specs.Formula.{Name, Term, Terms, Atom, Goal, Clause, Step, Strip}
use Rattle.harrop.specs.Place.{Plain}

-- a list of a word and further members
abbrev pub word : List ℕ → Sexps → Sexp
word w xs = Sexp.list (Sexps.cons (Sexp.str w) xs)

abbrev pub one : Sexp → Sexps
one x = Sexps.cons x Sexps.nil

abbrev pub two : Sexp → Sexp → Sexps
two x y = Sexps.cons x (one y)

abbrev pub number : ℕ → Sexp
number i = Sexp.str (decimal i)

abbrev mutual
  pub term_sexp : Term → Sexp
  term_sexp (Term.v i) = word (octets "v") (one (number i))
  term_sexp (Term.f g ts) = word (octets "f") (Sexps.cons (Sexp.str g) (term_sexps ts))
  term_sexp (Term.e k) = word (octets "e") (one (number k))

  pub term_sexps : Terms → Sexps
  term_sexps Terms.nil = Sexps.nil
  term_sexps (Terms.cons t ts) = Sexps.cons (term_sexp t) (term_sexps ts)

abbrev pub atom_sexp : Atom → Sexp
atom_sexp (Atom.atom p ts) = word (octets "atom") (Sexps.cons (Sexp.str p) (term_sexps ts))

abbrev mutual
  pub goal_sexp : Goal Plain → Sexp
  goal_sexp Goal.top = word (octets "top") Sexps.nil
  goal_sexp (Goal.atom a) = atom_sexp a
  goal_sexp (Goal.and g h) = word (octets "and") (two (goal_sexp g) (goal_sexp h))
  goal_sexp (Goal.or g h) = word (octets "or") (two (goal_sexp g) (goal_sexp h))
  goal_sexp (Goal.some q g) = word (octets "some") (one (goal_sexp g))
  goal_sexp (Goal.all q g) = word (octets "all") (one (goal_sexp g))
  goal_sexp (Goal.imp d g) = word (octets "imp") (two (clause_sexp d) (goal_sexp g))

  pub clause_sexp : Clause Plain → Sexp
  clause_sexp (Clause.atom_d a) = atom_sexp a
  clause_sexp (Clause.imp_d g a) = word (octets "imp") (two (goal_sexp g) (atom_sexp a))
  clause_sexp (Clause.all_d q d) = word (octets "all") (one (clause_sexp d))
  clause_sexp (Clause.and_d c d) = word (octets "and") (two (clause_sexp c) (clause_sexp d))

-- all of a list, each written in its turn
abbrev pub each : {A : Type 0} → (A → Sexp) → List A → Sexps
each f [] = Sexps.nil
each f (x ∷ xs) = Sexps.cons (f x) (each f xs)

abbrev pub rules_sexp : List (Clause Plain) → Sexp
rules_sexp ds = word (octets "rules") (each clause_sexp ds)

abbrev pub terms_sexp : List Term → Sexp
terms_sexp ts = word (octets "terms") (each term_sexp ts)

abbrev pub step_sexp : Step → Sexp
step_sexp Step.l = Sexp.str (octets "l")
step_sexp Step.r = Sexp.str (octets "r")
step_sexp (Step.n i) = number i

abbrev pub path_sexp : List Step → Sexp
path_sexp path = Sexp.list (each step_sexp path)

abbrev pub strip_sexp : Strip → Sexp
strip_sexp Strip.top = word (octets "top") Sexps.nil
strip_sexp (Strip.and P R) = word (octets "and") (two (strip_sexp P) (strip_sexp R))
strip_sexp (Strip.left P) = word (octets "left") (one (strip_sexp P))
strip_sexp (Strip.right P) = word (octets "right") (one (strip_sexp P))
strip_sexp (Strip.some i P) = word (octets "some") (two (number i) (strip_sexp P))
strip_sexp (Strip.all P) = word (octets "all") (one (strip_sexp P))
strip_sexp (Strip.imp P) = word (octets "imp") (one (strip_sexp P))
strip_sexp (Strip.use₀ k path) = word (octets "use") (two (number k) (path_sexp path))
strip_sexp (Strip.use₁ k path P) = word (octets "use") (Sexps.cons (number k) (two (path_sexp path) (strip_sexp P)))
