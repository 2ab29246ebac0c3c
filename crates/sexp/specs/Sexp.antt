-- Canonical S-expressions of RFC 9804, how they are spelt, and how deep they nest (document 01, "The carrier and the words", "Sizes").
-- A string with a display hint is an expression like any other here. That document 01 refuses one is a matter of the carrier's judgement alone.
use Rattle.std.specs.Prelude.{ℕ, ◌+◌, max, ◌≡◌, List, [], ◌∷◌, ◌++◌, length, drop}
use Rattle.sexp.specs.Decimal.{decimal_onto}

mutual
  -- a string of octets; a display hint and the string that it stands before; or a list
  pub data Sexp : Type 0 where
    str : List ℕ → Sexp
    hinted : List ℕ → List ℕ → Sexp
    list : Sexps → Sexp

  pub data Sexps : Type 0 where
    nil : Sexps
    cons : Sexp → Sexps → Sexps

-- a string in front of k: its length in decimal, a colon, its octets
abbrev pub verbatim_onto : List ℕ → List ℕ → List ℕ
verbatim_onto bs k = decimal_onto (length bs) (58 ∷ (bs ++ k))

-- an expression in front of k; the octets are ( ) [ ]
abbrev mutual
  pub spell_onto : Sexp → List ℕ → List ℕ
  spell_onto (str bs) k = verbatim_onto bs k
  spell_onto (hinted h bs) k = 91 ∷ verbatim_onto h (93 ∷ verbatim_onto bs k)
  spell_onto (list xs) k = 40 ∷ spells_onto xs (41 ∷ k)

  pub spells_onto : Sexps → List ℕ → List ℕ
  spells_onto nil k = k
  spells_onto (cons x xs) k = spell_onto x (spells_onto xs k)

abbrev pub spell : Sexp → List ℕ
spell e = spell_onto e []

abbrev pub spells : Sexps → List ℕ
spells xs = spells_onto xs []

-- how deep lists nest, the outermost being level 1
abbrev mutual
  pub nesting : Sexp → ℕ
  nesting (str bs) = 0
  nesting (hinted h bs) = 0
  nesting (list xs) = nestings xs + 1

  pub nestings : Sexps → ℕ
  nestings nil = 0
  nestings (cons x xs) = max (nesting x) (nestings xs)

-- the bytes of s from an offset on begin with an expression
pub record Stands (s : List ℕ) (at : ℕ) (e : Sexp) : Type 0 where
  pub rest : List ℕ
  pub spelt : drop at s ≡ spell_onto e rest

-- and with the members of a list and its closing parenthesis
pub record StandsAll (s : List ℕ) (at : ℕ) (xs : Sexps) : Type 0 where
  pub rest : List ℕ
  pub spelt : drop at s ≡ spells_onto xs (41 ∷ rest)
