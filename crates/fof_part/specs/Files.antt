-- The marks of the two files, told from those of the lines (document 02, One): the axioms become the rules in file order, the conjecture is the goal.
use Rattle.std.specs.Prelude.{List, [], ◌∷◌, ◌++◌}
use Rattle.basics.specs.Text.{octets}
use Rattle.fof_truth.specs.Formula.{Role}
use Rattle.fof_part.specs.Mark.{Mark}

-- what lines of one role are written as, each in file order
abbrev pub axiom_then : Role → List Mark → List (List Mark) → List (List Mark)
axiom_then Role.as_axiom ms mss = ms ∷ mss
axiom_then Role.as_conjecture ms mss = mss

abbrev pub conjecture_then : Role → List Mark → List (List Mark) → List (List Mark)
conjecture_then Role.as_axiom ms mss = mss
conjecture_then Role.as_conjecture ms mss = ms ∷ mss

abbrev pub axioms_in : List (Role × List Mark) → List (List Mark)
axioms_in [] = []
axioms_in (i ∷ is) = axiom_then i.0 i.1 (axioms_in is)

abbrev pub conjectures_in : List (Role × List Mark) → List (List Mark)
conjectures_in [] = []
conjectures_in (i ∷ is) = conjecture_then i.0 i.1 (conjectures_in is)

-- one after another
abbrev pub joined : List (List Mark) → List Mark
joined [] = []
joined (ms ∷ mss) = ms ++ joined mss

-- the file of rules
abbrev pub rules_marks : List (List Mark) → List Mark
rules_marks mss = Mark.begin ∷ Mark.string (octets "rules") ∷ (joined mss ++ (Mark.end ∷ []))
