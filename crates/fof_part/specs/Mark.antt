-- An expression as it is written from left to right: parentheses and strings. Its bytes and how deep it nests are told from these marks.
use Rattle.std.specs.Prelude.{ℕ, zero, suc, ◌+◌, ◌-◌, max, List, [], ◌∷◌, ◌++◌}
use Rattle.sexp.specs.Sexp.{Sexp, Sexps, str, hinted, list, nil, cons, verbatim_onto}

pub data Mark : Type 0 where
  begin : Mark
  string : List ℕ → Mark
  end : Mark

-- the marks of an expression without display hints, in front of others
abbrev mutual
  pub marks_onto : Sexp → List Mark → List Mark
  marks_onto (str w) k = Mark.string w ∷ k
  marks_onto (hinted h w) k = Mark.string w ∷ k
  marks_onto (list xs) k = Mark.begin ∷ marks_all_onto xs (Mark.end ∷ k)

  pub marks_all_onto : Sexps → List Mark → List Mark
  marks_all_onto nil k = k
  marks_all_onto (cons x xs) k = marks_onto x (marks_all_onto xs k)

abbrev pub marks_of : Sexp → List Mark
marks_of e = marks_onto e []

-- their bytes
abbrev pub inked : List Mark → List ℕ
inked [] = []
inked (Mark.begin ∷ ms) = 40 ∷ inked ms
inked (Mark.string w ∷ ms) = verbatim_onto w (inked ms)
inked (Mark.end ∷ ms) = 41 ∷ inked ms

-- how deep they go, where n lists are open: the deepest level that is reached
abbrev pub deepest : ℕ → List Mark → ℕ
deepest n [] = n
deepest n (Mark.begin ∷ ms) = max n (deepest (suc n) ms)
deepest n (Mark.string w ∷ ms) = deepest n ms
deepest n (Mark.end ∷ ms) = max n (deepest (n - 1) ms)
