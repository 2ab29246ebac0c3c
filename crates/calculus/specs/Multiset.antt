-- The left side of a sequent is a multiset of formulas (document 004, section 2): a list, taken up to order wherever a rule speaks of it.
use mathlib.Core.List.{List, Permᴰ}

infix 4 ◌≈◌
-- the same multiset: one list is a permutation of the other
abbrev pub ◌≈◌ : {A : Type 0} → List A → List A → Type 0
Γ ≈ Δ = Permᴰ Γ Δ
