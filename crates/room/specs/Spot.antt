-- Where a formula or a term stands: in which file, at which offset, and in which frame of the room its variables are bound.
-- A supposed clause is kept in the room as the words of its spot.
use Rattle.std.specs.Prelude.{ℕ, ◌+◌, ◌≤◌, List, [], ◌∷◌, eqb, ltb, get_or}
use Rattle.std.proofs.lemmas.List.Edits.{sets}
use Rattle.basics.specs.Choice.{choose}
use Rattle.harrop.specs.Bindings.{Bindings}
use Rattle.sexp.specs.Sexp.{Sexp, Stands, nesting}
use Rattle.room.specs.declared.Source.{Source}
use Rattle.room.specs.declared.Source.TheVariants.{Rules, Goal, Terms}
use Rattle.room.specs.declared.Spot.{Spot}
use Rattle.room.specs.Files.{Files, file_of}
use Rattle.room.specs.Layout.{levels, supposed_word, supposed_at_most}
use Rattle.room.specs.Frame.{held, bindings_in}

-- a source as document 01 numbers its files, and back
abbrev pub source_number : Source → ℕ
source_number Rules = 1
source_number Goal = 2
source_number Terms = 3

unfoldable pub source_of : ℕ → Source
source_of n = choose (eqb n 1) Rules (choose (eqb n 2) Goal Terms)

-- the bindings of what stands at a spot
abbrev pub bindings_at : List ℕ → Spot → Bindings
bindings_at room x = bindings_in room x.base x.count

-- at a spot stands an expression, no deeper than a file may nest
pub record Here (f : Files) (x : Spot) (e : Sexp) : Type 0 where
  pub stands : Stands (file_of f x.source) x.at e
  pub shallow : nesting e ≤ levels

-- a spot of the same formula at another offset
abbrev pub moved_to : Spot → ℕ → Spot
moved_to x at = record { source = x.source; at = at; base = x.base; count = x.count }

-- the words of a spot
abbrev pub spot_words : Spot → List ℕ
spot_words x = source_number x.source ∷ held x.at ∷ held x.base ∷ held x.count ∷ []

-- the room after clause m is supposed; the fifth word of it stays. There is room for 63
unfoldable pub supposing : List ℕ → ℕ → Spot → List ℕ
supposing room m x = choose (ltb m supposed_at_most) (sets room (supposed_word m) (spot_words x)) room

-- the spot that four words from one on say
abbrev pub spot_from : List ℕ → ℕ → Spot
spot_from room i = record {
  source = source_of (get_or room i 0);
  at = get_or room (i + 1) 0;
  base = get_or room (i + 2) 0;
  count = get_or room (i + 3) 0;
}

abbrev pub nowhere : Spot
nowhere = record { source = Terms; at = 0; base = 0; count = 0 }

-- the spot of supposed clause m
unfoldable pub supposed_in : List ℕ → ℕ → Spot
supposed_in room m = choose (ltb m supposed_at_most) (spot_from room (supposed_word m)) nowhere
