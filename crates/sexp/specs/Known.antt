-- Which expressions the carrier knows (document 01: "Display hints in square brackets are treated as a carrier fault"): all of them where hints are read, else
-- those without a hint.
use Rattle.std.specs.Prelude.{ℕ, ◌≡◌, Bool, true, false, List}
use Rattle.std.proofs.Math.Option.{Option, none, some}
use Rattle.sexp.specs.Sexp.{Sexp, Sexps, str, hinted, list, nil, cons}

abbrev mutual
  pub Known : Bool → Sexp → Type 0
  Known hints (str bs) = Unit {0}
  Known hints (hinted h bs) = hints ≡ true
  Known hints (list xs) = Knowns hints xs

  pub Knowns : Bool → Sexps → Type 0
  Knowns hints nil = Unit {0}
  Knowns hints (cons x xs) = Known hints x × Knowns hints xs

-- no string in it has a hint
abbrev pub Plain : Sexp → Type 0
Plain e = Known false e

-- a string, with a hint or without
abbrev pub text_of : Option (List ℕ) → List ℕ → Sexp
text_of none bs = str bs
text_of (some h) bs = hinted h bs
