-- What a whole book comes to (document 02, One): the axioms become rules in file order, the one conjecture the goal, both to be written as canonical files; or a refusal, in the order 13, 6, 3, 10.
-- The two before these, 1 and 12, are given on the text, before there are lines. All are of file 1, with place 0. `a` and `c` are the lengths of the two buffers.
use Rattle.std.specs.Prelude.{ℕ, min, Bool, ◌||◌, List, [], ◌∷◌, ltb, length}
use Rattle.std.proofs.Math.Option.{Option, none, some}
use Rattle.basics.specs.Choice.{choose, ◌>>=◌, maybe}
use Rattle.harrop.specs.Formula.{Goal, Clause}
use Rattle.harrop.specs.Place.{Plain}
use Rattle.sexp.specs.Sexp.{spell, nesting}
use Rattle.packet.specs.Written.{rules_sexp, goal_sexp}
use Rattle.packet.specs.File.{most_bytes, most_levels, most_members}
use Rattle.fof_truth.specs.Formula.{Line}
use Rattle.fof_truth.specs.Sentence.{Sentence, sentence_of}

-- what every line becomes, in file order
abbrev pub sentences_of : List Line → Option (List Sentence)
sentences_of [] = some []
sentences_of (l ∷ ls) = sentence_of l >>= λ s. sentences_of ls >>= λ ss. some (s ∷ ss)

-- the rules among them, and the goals, each in file order
abbrev pub rules_in : List Sentence → List (Clause Plain)
rules_in [] = []
rules_in (Sentence.rule d ∷ ss) = d ∷ rules_in ss
rules_in (Sentence.goal g ∷ ss) = rules_in ss

abbrev pub goals_in : List Sentence → List (Goal Plain)
goals_in [] = []
goals_in (Sentence.rule d ∷ ss) = goals_in ss
goals_in (Sentence.goal g ∷ ss) = g ∷ goals_in ss

-- the one goal, where there is exactly one
abbrev pub only_one : List (Goal Plain) → Option (Goal Plain)
only_one [] = none
only_one (g ∷ []) = some g
only_one (g ∷ h ∷ gs) = none

pub record Book : Type 0 where
  pub rules : List (Clause Plain)
  pub goal : Goal Plain

abbrev pub with_goal : List Sentence → Option Book
with_goal ss = only_one (goals_in ss) >>= λ g. some (record { rules = rules_in ss; goal = g })

-- the book that the lines are
abbrev pub book_in : List Line → Option Book
book_in ls = sentences_of ls >>= with_goal

-- the two files
abbrev pub rules_file : Book → List ℕ
rules_file b = spell (rules_sexp b.rules)

abbrev pub goal_file : Book → List ℕ
goal_file b = spell (goal_sexp b.goal)

pub data Why : Type 0 where
  outside : Why  -- not in the part, a free variable, no clause or goal of document 01, no conjecture or two
  too_many : Why  -- over 256 rules
  too_deep : Why  -- a list at level 65 in one of the files
  too_long : Why  -- a file over its buffer or over 16,384 bytes

-- the paper's numbers
abbrev pub why_number : Why → ℕ
why_number Why.outside = 13
why_number Why.too_many = 6
why_number Why.too_deep = 3
why_number Why.too_long = 10

pub data Outcome : Type 0 where
  written : Book → Outcome
  refused : Why → Outcome

abbrev pub is_many : Book → Bool
is_many b = ltb most_members (length b.rules)

abbrev pub is_deep : Book → Bool
is_deep b = ltb most_levels (nesting (rules_sexp b.rules)) || ltb most_levels (nesting (goal_sexp b.goal))

abbrev pub is_long : ℕ → ℕ → Book → Bool
is_long a c b = ltb (min a most_bytes) (length (rules_file b)) || ltb (min c most_bytes) (length (goal_file b))

-- a book by its sizes, in the order 6, 3, 10
unfoldable pub sized : ℕ → ℕ → Book → Outcome
sized a c b = choose (is_many b) (Outcome.refused Why.too_many) (choose (is_deep b) (Outcome.refused Why.too_deep) (choose (is_long a c b) (Outcome.refused Why.too_long) (Outcome.written b)))

unfoldable pub book_of : List Line → ℕ → ℕ → Outcome
book_of ls a c = maybe (book_in ls) (Outcome.refused Why.outside) λ b. sized a c b
