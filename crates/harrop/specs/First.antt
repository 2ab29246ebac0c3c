-- Which strip the search writes, in document 01's own sentence and without any search: at each place, take the options in order and choose the first that has a proof within the height left; then do the same in its parts with one less.
use Rattle.std.specs.Prelude.{ℕ, suc, ◌≤◌, List, [], ◌∷◌}
use Rattle.harrop.specs.Formula.{Strip, height}
use Rattle.harrop.specs.Place.{Candidates, Place}
use Rattle.harrop.specs.Proves.{ProvesAt}
use Rattle.harrop.specs.Position.{parts}
use Rattle.harrop.specs.Fits.{FitsAt}
use Rattle.harrop.specs.Order.{chosen, OptionBefore}

module _ {Q : Type 0} (cs : Candidates Q) where
  -- a proof within a height
  pub record Within (h : ℕ) (pl : Place Q) : Type 0 where
    pub strip : Strip
    pub proves : ProvesAt cs pl strip
    pub is_low : height strip ≤ h

  -- no proof within the height takes an earlier option
  abbrev pub NoneEarlier : ℕ → Place Q → Strip → Type 0
  NoneEarlier h pl P = (R : Strip) → ProvesAt cs pl R → height R ≤ h → OptionBefore (chosen R) (chosen P) → ⊥

  mutual
    pub data First : ℕ → Place Q → Strip → Type 0 where
      first_one : {h : ℕ} {pl : Place Q} {P : Strip} {places : List (Place Q)} → FitsAt cs pl P places → NoneEarlier (suc h) pl P → FirstParts h places (parts P) → First (suc h) pl P

    pub data FirstParts : ℕ → List (Place Q) → List Strip → Type 0 where
      no-parts : {h : ℕ} → FirstParts h [] []
      more_parts : {h : ℕ} {pl : Place Q} {P : Strip} {places : List (Place Q)} {ps : List Strip} → First h pl P → FirstParts h places ps → FirstParts h (pl ∷ places) (P ∷ ps)
