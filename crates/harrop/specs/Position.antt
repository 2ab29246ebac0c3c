-- Where a node stands in a strip, and file order (document 01, "When a strip fits" and refusal 7).
-- A position is the list of part numbers from the root. Which byte offset it is, and that file order is the order of offsets, is said in crate `packet`.
use Rattle.std.specs.Prelude.{ℕ, ◌<◌, List, [], ◌∷◌, ◌++◌, map}
use Rattle.std.proofs.Math.Option.{Option, some}
use Rattle.std.proofs.Math.ListN.{get_elem?}
use Rattle.basics.specs.Choice.{◌>>=◌}
use Rattle.basics.specs.Each.{Each}
use Rattle.harrop.specs.Formula.{Strip}

abbrev pub Position : Type 0
Position = List ℕ

-- the parts of a strip's first node, in file order
abbrev pub parts : Strip → List Strip
parts Strip.top = []
parts (Strip.and P R) = P ∷ R ∷ []
parts (Strip.left P) = P ∷ []
parts (Strip.right P) = P ∷ []
parts (Strip.some i P) = P ∷ []
parts (Strip.all P) = P ∷ []
parts (Strip.imp P) = P ∷ []
parts (Strip.use₀ k path) = []
parts (Strip.use₁ k path P) = P ∷ []

-- the strip at a position
abbrev pub part_at : Strip → Position → Option Strip
part_at P [] = some P
part_at P (i ∷ at) = get_elem? (parts P) i >>= λ R. part_at R at

-- file order: a node before its parts, and all of an earlier part before a later one
pub data Before : Position → Position → Type 0 where
  node-first : {i : ℕ} {at : Position} → Before [] (i ∷ at)
  earlier-part : {i j : ℕ} {at at' : Position} → i < j → Before (i ∷ at) (j ∷ at')
  same-part : {i : ℕ} {at at' : Position} → Before at at' → Before (i ∷ at) (i ∷ at')

-- the positions in part i, from those in it
abbrev pub within : ℕ → List Position → List Position
within i ats = map (λ at. i ∷ at) ats

-- the positions of all nodes but the first, in file order
abbrev pub below : Strip → List Position
below Strip.top = []
below (Strip.and P R) = within 0 ([] ∷ below P) ++ within 1 ([] ∷ below R)
below (Strip.left P) = within 0 ([] ∷ below P)
below (Strip.right P) = within 0 ([] ∷ below P)
below (Strip.some i P) = within 0 ([] ∷ below P)
below (Strip.all P) = within 0 ([] ∷ below P)
below (Strip.imp P) = within 0 ([] ∷ below P)
below (Strip.use₀ k path) = []
below (Strip.use₁ k path P) = within 0 ([] ∷ below P)

-- the positions of all nodes, in file order
abbrev pub positions : Strip → List Position
positions P = [] ∷ below P

-- each before every later one: so none is there twice
abbrev pub InOrder : List Position → Type 0
InOrder [] = Unit {0}
InOrder (at ∷ ats) = Each (Before at) ats × InOrder ats
