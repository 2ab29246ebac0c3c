-- The marks of an expression in front of others are its own marks, and then the others.
use mathlib.Core.Path.{◌≡◌, refl, sym, ◌∙◌, ap}
use mathlib.Core.List.{List, [], ◌∷◌, ◌++◌}
use Rattle.sexp.specs.Sexp.{Sexp, Sexps}
use Rattle.fof_part.specs.Mark.{Mark, marks_onto, marks_all_onto, marks_of}

mutual
  onto-then : (e : Sexp) (k m : List Mark) → marks_onto e k ++ m ≡ marks_onto e (k ++ m)
  onto-then (Sexp.str w) k m = refl
  onto-then (Sexp.hinted h w) k m = refl
  onto-then (Sexp.list xs) k m = ap (λ (x : List Mark). Mark.begin ∷ x) (all_then xs (Mark.end ∷ k) m)

  all_then : (xs : Sexps) (k m : List Mark) → marks_all_onto xs k ++ m ≡ marks_all_onto xs (k ++ m)
  all_then Sexps.nil k m = refl
  all_then (Sexps.cons x xs) k m = onto-then x (marks_all_onto xs k) m ∙ ap (marks_onto x) (all_then xs k m)

pub onto : (e : Sexp) (k : List Mark) → marks_onto e k ≡ marks_of e ++ k
onto e k = sym (onto-then e [] k)

pub onto-all : (xs : Sexps) (k : List Mark) → marks_all_onto xs k ≡ marks_all_onto xs [] ++ k
onto-all xs k = sym (all_then xs [] k)
