-- How a strip's bytes are put together, node by node.
use Prim.Native.Nat.{ℕ}
use mathlib.Core.Path.{◌≡◌, refl, sym, ◌∙◌, ap}
use mathlib.Core.List.{List, [], ◌∷◌, ◌++◌}
use Rattle.basics.specs.Text.{octets}
use Rattle.harrop.specs.Formula.{Step, Strip}
use Rattle.sexp.specs.Decimal.{decimal_onto}
use Rattle.sexp.specs.Sexp.{Sexp, Sexps, spell, spells, spell_onto, spells_onto}
use Rattle.sexp.proofs.OntoLaws.{spell-onto, spells-onto}
use Rattle.packet.specs.Written.{each, number, step_sexp, path_sexp, strip_sexp}
use Rattle.drawing.specs.Spelled.{written}
use Rattle.drawing.specs.Spelled.{step_bytes, path_bytes}
use Rattle.pen.specs.Numeral.{numeral}

-- the closing parenthesis
abbrev pub shut : List ℕ
shut = octets ")"

onto-shut : (P : Strip) → spell_onto (strip_sexp P) (41 ∷ []) ≡ written P ++ shut
onto-shut P = spell-onto (strip_sexp P) (41 ∷ [])

path-onto : (path : List Step) (k : List ℕ) → spell_onto (path_sexp path) k ≡ octets "(" ++ (path_bytes path ++ (shut ++ k))
unfolding path_bytes
path-onto path k = ap (λ (x : List ℕ). 40 ∷ x) (spells-onto (each step_sexp path) (41 ∷ k))

module _ (P R : Strip) where
  pub and-spelled : written (Strip.and P R) ≡ octets "(3:and" ++ (written P ++ (written R ++ shut))
  unfolding decimal_onto
  and-spelled =
      ap (λ (x : List ℕ). octets "(3:and" ++ x) (spell-onto (strip_sexp P) (spell_onto (strip_sexp R) (41 ∷ [])) ∙ ap (λ (x : List ℕ). written P ++ x) (onto-shut R))

pub top-spelled : written Strip.top ≡ octets "(3:top)"
unfolding decimal_onto
top-spelled = refl

module _ (P : Strip) where
  pub left-spelled : written (Strip.left P) ≡ octets "(4:left" ++ (written P ++ shut)
  unfolding decimal_onto
  left-spelled = ap (λ (x : List ℕ). octets "(4:left" ++ x) (onto-shut P)

  pub right-spelled : written (Strip.right P) ≡ octets "(5:right" ++ (written P ++ shut)
  unfolding decimal_onto
  right-spelled = ap (λ (x : List ℕ). octets "(5:right" ++ x) (onto-shut P)

  pub all-spelled : written (Strip.all P) ≡ octets "(3:all" ++ (written P ++ shut)
  unfolding decimal_onto
  all-spelled = ap (λ (x : List ℕ). octets "(3:all" ++ x) (onto-shut P)

  pub imp-spelled : written (Strip.imp P) ≡ octets "(3:imp" ++ (written P ++ shut)
  unfolding decimal_onto
  imp-spelled = ap (λ (x : List ℕ). octets "(3:imp" ++ x) (onto-shut P)

  pub some-spelled : (i : ℕ) → written (Strip.some i P) ≡ octets "(4:some" ++ (numeral i ++ (written P ++ shut))
  unfolding decimal_onto numeral
  some-spelled i =
      ap (λ (x : List ℕ). octets "(4:some" ++ x) (spell-onto (number i) (spell_onto (strip_sexp P) (41 ∷ [])) ∙ ap (λ (x : List ℕ). numeral i ++ x) (onto-shut P))

module _ (k : ℕ) (path : List Step) where
  pub use₀-spelled : written (Strip.use₀ k path) ≡ octets "(3:use" ++ (numeral k ++ (octets "(" ++ (path_bytes path ++ (shut ++ shut))))
  unfolding decimal_onto numeral
  use₀-spelled =
      ap (λ (x : List ℕ). octets "(3:use" ++ x) (spell-onto (number k) (spell_onto (path_sexp path) (41 ∷ [])) ∙ ap (λ (x : List ℕ). numeral k ++ x) (path-onto path (41 ∷ [])))

  pub use₁-spelled : (P : Strip) → written (Strip.use₁ k path P) ≡ octets "(3:use" ++ (numeral k ++ (octets "(" ++ (path_bytes path ++ (shut ++ (written P ++ shut)))))
  unfolding decimal_onto numeral
  use₁-spelled P =
      ap (λ (x : List ℕ). octets "(3:use" ++ x)
      (spell-onto (number k) (spell_onto (path_sexp path) (spell_onto (strip_sexp P) (41 ∷ [])))
      ∙ ap (λ (x : List ℕ). numeral k ++ x) (path-onto path (spell_onto (strip_sexp P) (41 ∷ [])) ∙ ap (λ (x : List ℕ). octets "(" ++ (path_bytes path ++ (shut ++ x))) (onto-shut P)))

-- the steps of a path
pub no_steps : path_bytes [] ≡ []
unfolding path_bytes
no_steps = refl

pub one-step : (s : Step) (path : List Step) → path_bytes (s ∷ path) ≡ step_bytes s ++ path_bytes path
unfolding path_bytes step_bytes
one-step s path = spell-onto (step_sexp s) (spells (each step_sexp path))

pub l-bytes : step_bytes Step.l ≡ octets "1:l"
unfolding step_bytes decimal_onto
l-bytes = refl

pub r-bytes : step_bytes Step.r ≡ octets "1:r"
unfolding step_bytes decimal_onto
r-bytes = refl

pub n-bytes : (i : ℕ) → step_bytes (Step.n i) ≡ numeral i
unfolding step_bytes numeral
n-bytes i = refl
