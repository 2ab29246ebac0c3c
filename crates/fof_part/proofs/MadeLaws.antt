-- What the items of a text come to is what crate fof_truth says of the book that is spelt there; where no book is spelt it is outside the part.
use Prim.Native.Nat.{ℕ}
use mathlib.Core.Path.{◌≡◌, refl, ◌∙◌, ap, ap₂}
use mathlib.Core.Bool.{Bool, true, false, ◌||◌}
use mathlib.Core.List.{List, [], ◌∷◌, map}
use mathlib.Core.Option.{Option, none, some}
use lib.Dec.{ltb}
use lib.ListN.{length, length-map}
use Rattle.basics.specs.Choice.{choose, ◌>>=◌, maybe}
use Rattle.harrop.specs.Formula.{Goal}
use Rattle.harrop.specs.Place.{Plain}
use Rattle.packet.specs.Written.{goal_sexp, clause_sexp}
use Rattle.packet.specs.File.{most_levels, most_members}
use Rattle.fof_truth.specs.Formula.{Role, Line}
use Rattle.fof_truth.specs.Sentence.{Sentence}
use Rattle.fof_truth.specs.Book.{sentences_of, rules_in, goals_in, only_one, Book, with_goal, rules_file, goal_file, Why, Outcome, is_many, is_deep, is_long, sized, book_of}
use Rattle.fof_part.specs.Sign.{Sign}
use Rattle.fof_part.specs.Spelled.{BookSpelt}
use Rattle.fof_part.specs.Mark.{Mark, marks_of, inked, deepest}
use Rattle.fof_part.specs.Lines.{lines_at, items}
use Rattle.fof_part.specs.Files.{rules_marks}
use Rattle.fof_part.specs.Made.{Made, only_marks, by_tests, are_deep, are_long, sized_marks, made_from, made_of, shown}
use Rattle.fof_part.proofs.MarkLaws.{deepest-of, goal-inked, rule_marks, rules-inked, rules-deepest, axioms-are, conjectures-are}
use Rattle.fof_part.proofs.ExactLaws.{outside-exactly, book-read}

abbrev goal_marks : Goal Plain → List Mark
goal_marks g = marks_of (goal_sexp g)

shown-tests : (m d l : Bool) (b : Book) → by_tests m d l (rules_file b) (goal_file b) ≡ shown (choose m (Outcome.refused Why.too_many) (choose d (Outcome.refused Why.too_deep) (choose l (Outcome.refused Why.too_long) (Outcome.written b))))
shown-tests true d l b = refl
shown-tests false true l b = refl
shown-tests false false true b = refl
shown-tests false false false b = refl

sized-made : (a c : ℕ) (b : Book) → sized_marks a c (rule_marks b.rules) (goal_marks b.goal) ≡ shown (sized a c b)
unfolding sized_marks sized
sized-made a c b =
    let rs = rules_marks (rule_marks b.rules) in
    let g = goal_marks b.goal in
    ap (λ (x : ℕ). by_tests (ltb most_members x) (are_deep rs g) (are_long a c (inked rs) (inked g)) (inked rs) (inked g)) (length-map b.rules (λ d. marks_of (clause_sexp d)))
    ∙ ap₂ (λ (x y : ℕ). by_tests (is_many b) (ltb most_levels x || ltb most_levels y) (are_long a c (inked rs) (inked g)) (inked rs) (inked g)) (rules-deepest b.rules) (deepest-of (goal_sexp b.goal))
    ∙ ap₂ (λ (x y : List ℕ). by_tests (is_many b) (is_deep b) (are_long a c x y) x y) (rules-inked b.rules) (goal-inked b.goal)
    ∙ shown-tests (is_many b) (is_deep b) (is_long a c b) b

only-made : (gs : List (Goal Plain)) → only_marks (map goal_marks gs) ≡ (only_one gs >>= λ g. some (goal_marks g))
only-made [] = refl
only-made (g ∷ []) = refl
only-made (g ∷ h ∷ gs) = refl

items-made : (a c : ℕ) (ss : List Sentence) → made_from a c (items ss) ≡ shown (maybe (with_goal ss) (Outcome.refused Why.outside) λ b. sized a c b)
items-made a c ss =
    ap₂ (λ (o : List (List Mark)) (r : List (List Mark)). maybe (only_marks o) (Made.refused Why.outside) λ g. sized_marks a c r g) (conjectures-are ss) (axioms-are ss)
    ∙ ap (λ (o : Option (List Mark)). maybe o (Made.refused Why.outside) λ g. sized_marks a c (rule_marks (rules_in ss)) g) (only-made (goals_in ss))
    ∙ go (only_one (goals_in ss))
  where
    go : (o : Option (Goal Plain)) → maybe (o >>= λ g. some (goal_marks g)) (Made.refused Why.outside) (λ g. sized_marks a c (rule_marks (rules_in ss)) g) ≡ shown (maybe (o >>= λ g. some (record { rules = rules_in ss; goal = g })) (Outcome.refused Why.outside) λ b. sized a c b)
    go none = refl
    go (some g) = sized-made a c (record { rules = rules_in ss; goal = g })

-- of a spelt book
pub book-made : (ls : List Line) (ss : List Sign) (a c : ℕ) → BookSpelt ls ss → made_of (lines_at ss) a c ≡ shown (book_of ls a c)
unfolding made_of book_of
book-made ls ss a c b = ap (λ (o : Option (List (Role × List Mark))). made_of o a c) (book-read ls ss b) ∙ go (sentences_of ls)
  where
    go : (o : Option (List Sentence)) → made_of (o >>= λ sents. some (items sents)) a c ≡ shown (maybe (o >>= with_goal) (Outcome.refused Why.outside) λ x. sized a c x)
    go none = refl
    go (some sents) = items-made a c sents

-- and where none is spelt
pub unspelt-made : (ss : List Sign) (a c : ℕ) → ((ls : List Line) → BookSpelt ls ss → ⊥) → made_of (lines_at ss) a c ≡ Made.refused Why.outside
unfolding made_of
unspelt-made ss a c h = ap (λ (o : Option (List (Role × List Mark))). made_of o a c) ((outside-exactly ss).1 λ its k. h k.lines k.spelt)
