-- The order on the proofs at a place, stated by itself and without any search (document 01, "Which strip the search writes").
-- Options: `left` before `right`; candidates by number; for an atom, clauses by number, then paths compared step by step, `l` before `r`, lower number first. Where two proofs take the same option, their parts decide, the first part first.
use Rattle.std.specs.Prelude.{ℕ, ◌<◌, ◌≡◌, List, ◌∷◌}
use Rattle.harrop.specs.Formula.{Step, Strip}
use Rattle.harrop.specs.Position.{parts}

-- the option that a node takes; where a goal leaves one alone, there is no choice
pub data Chosen : Type 0 where
  only : Chosen
  left_one : Chosen
  right_one : Chosen
  candidate : ℕ → Chosen
  clause : ℕ → List Step → Chosen

abbrev pub chosen : Strip → Chosen
chosen Strip.top = Chosen.only
chosen (Strip.and P R) = Chosen.only
chosen (Strip.left P) = Chosen.left_one
chosen (Strip.right P) = Chosen.right_one
chosen (Strip.some i P) = Chosen.candidate i
chosen (Strip.all P) = Chosen.only
chosen (Strip.imp P) = Chosen.only
chosen (Strip.use₀ k path) = Chosen.clause k path
chosen (Strip.use₁ k path P) = Chosen.clause k path

-- `l` before `r`, lower number first
pub data StepBefore : Step → Step → Type 0 where
  l-r : StepBefore Step.l Step.r
  lower : {i j : ℕ} → i < j → StepBefore (Step.n i) (Step.n j)

-- paths compared step by step
pub data PathBefore : List Step → List Step → Type 0 where
  this-step : {s t : Step} {path path' : List Step} → StepBefore s t → PathBefore (s ∷ path) (t ∷ path')
  next-step : {s : Step} {path path' : List Step} → PathBefore path path' → PathBefore (s ∷ path) (s ∷ path')

-- one option before another
pub data OptionBefore : Chosen → Chosen → Type 0 where
  left-right : OptionBefore Chosen.left_one Chosen.right_one
  by-candidate : {i j : ℕ} → i < j → OptionBefore (Chosen.candidate i) (Chosen.candidate j)
  by-clause : {k m : ℕ} {path path' : List Step} → k < m → OptionBefore (Chosen.clause k path) (Chosen.clause m path')
  by-path : {k : ℕ} {path path' : List Step} → PathBefore path path' → OptionBefore (Chosen.clause k path) (Chosen.clause k path')

mutual
  -- one proof before another
  pub data Earlier : Strip → Strip → Type 0 where
    by-option : {P R : Strip} → OptionBefore (chosen P) (chosen R) → Earlier P R
    by_parts : {P R : Strip} → chosen P ≡ chosen R → EarlierParts (parts P) (parts R) → Earlier P R

  -- the first part that differs decides
  pub data EarlierParts : List Strip → List Strip → Type 0 where
    this-part : {P R : Strip} {ps rs : List Strip} → Earlier P R → EarlierParts (P ∷ ps) (R ∷ rs)
    next-part : {P : Strip} {ps rs : List Strip} → EarlierParts ps rs → EarlierParts (P ∷ ps) (P ∷ rs)

-- two things, compared by an order
pub data Compared {A : Type 0} (R : A → A → Type 0) (x y : A) : Type 0 where
  before : R x y → Compared R x y
  same : x ≡ y → Compared R x y
  after : R y x → Compared R x y
