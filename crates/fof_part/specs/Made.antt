-- What the items of a text come to (document 02, One): the bytes of the two files, or why there are none, in the order 13, 6, 3, 10 of crate fof_truth, told from the marks alone.
-- `a` and `c` are the lengths of the two buffers. The two refusals before these, 1 and 12, are given on the text.
use Rattle.std.specs.Prelude.{ℕ, min, Bool, ◌||◌, List, [], ◌∷◌, ltb, length}
use Rattle.std.proofs.Math.Option.{Option, none, some}
use Rattle.basics.specs.Choice.{choose, maybe}
use Rattle.packet.specs.File.{most_bytes, most_levels, most_members}
use Rattle.fof_truth.specs.Formula.{Role}
use Rattle.fof_truth.specs.Book.{rules_file, goal_file, Why, Outcome}
use Rattle.fof_part.specs.Mark.{Mark, inked, deepest}
use Rattle.fof_part.specs.Files.{axioms_in, conjectures_in, rules_marks}

pub data Made : Type 0 where
  files : List ℕ → List ℕ → Made  -- the rules' bytes, the goal's bytes
  refused : Why → Made

-- the one conjecture, where there is exactly one
abbrev pub only_marks : List (List Mark) → Option (List Mark)
only_marks [] = none
only_marks (g ∷ []) = some g
only_marks (g ∷ h ∷ gs) = none

-- by three tests, in the order 6, 3, 10
abbrev pub by_tests : Bool → Bool → Bool → List ℕ → List ℕ → Made
by_tests many deep long rs g = choose many (Made.refused Why.too_many) (choose deep (Made.refused Why.too_deep) (choose long (Made.refused Why.too_long) (Made.files rs g)))

abbrev pub are_deep : List Mark → List Mark → Bool
are_deep rs g = ltb most_levels (deepest 0 rs) || ltb most_levels (deepest 0 g)

abbrev pub are_long : ℕ → ℕ → List ℕ → List ℕ → Bool
are_long a c rs g = ltb (min a most_bytes) (length rs) || ltb (min c most_bytes) (length g)

-- rules and a goal, each by its marks
unfoldable pub sized_marks : ℕ → ℕ → List (List Mark) → List Mark → Made
sized_marks a c mss g =
    by_tests (ltb most_members (length mss)) (are_deep (rules_marks mss) g) (are_long a c (inked (rules_marks mss)) (inked g)) (inked (rules_marks mss)) (inked g)

abbrev pub made_from : ℕ → ℕ → List (Role × List Mark) → Made
made_from a c is = maybe (only_marks (conjectures_in is)) (Made.refused Why.outside) λ g. sized_marks a c (axioms_in is) g

-- no items: a line is outside the part
unfoldable pub made_of : Option (List (Role × List Mark)) → ℕ → ℕ → Made
made_of o a c = maybe o (Made.refused Why.outside) λ is. made_from a c is

-- what crate fof_truth says of a book, with the files as bytes
abbrev pub shown : Outcome → Made
shown (Outcome.written b) = Made.files (rules_file b) (goal_file b)
shown (Outcome.refused w) = Made.refused w
