-- What is drawn of a strip from a place of a buffer on: its bytes, its height and nodes, and the place after it (document 01, "What comes back").
use Rattle.std.specs.Prelude.{ℕ, ◌≤◌, max, min, ◌≡◌, List, ◌++◌, length}
use Rattle.std.proofs.Math.Option.{Option, none, some}
use Rattle.basics.specs.Text.{octets}
use Rattle.basics.specs.Choice.{◌>>=◌}
use Rattle.harrop.specs.Formula.{Goal, Step, Strip, height, nodes}
use Rattle.harrop.specs.Bindings.{Bindings}
use Rattle.harrop.specs.Place.{End}
use Rattle.room.specs.Where.{plus}
use Rattle.drawing.specs.Spelled.{written}
use Rattle.drawing.specs.Spelled.{path_bytes}
use Rattle.pen.specs.Laid.{largest, Puts}
use Rattle.drawing.specs.declared.Drawn.{Drawn}

-- nothing, at a place
abbrev pub nothing : ℕ → Drawn
nothing at = record { height = 0; nodes = 0; at = at }

-- where the part of a buffer begins that is behind m bytes, or its end; no buffer is longer than a machine word counts
pub record Cuts (m size r : ℕ) : Type 0 where
  pub there : r ≡ min m size
  pub small : size ≤ largest

-- what is drawn in a part of a buffer that begins behind i bytes
abbrev pub behind : ℕ → Drawn → Drawn
behind i a = record { height = a.height; nodes = a.nodes; at = plus i a.at }

-- two parts side by side
abbrev pub beside : Drawn → Drawn → Drawn
beside a b = record { height = max a.height b.height; nodes = plus a.nodes b.nodes; at = b.at }

-- a node closed behind its parts
pub record Closes (a : Drawn) (d d' : List ℕ) (r : Drawn) : Type 0 where
  pub puts : Puts a.at (octets ")") d d' r.at
  pub high : r.height ≡ plus a.height 1
  pub many : r.nodes ≡ plus a.nodes 1

-- a whole strip
pub record Draws (at : ℕ) (S : Strip) (d d' : List ℕ) (r : Drawn) : Type 0 where
  pub puts : Puts at (written S) d d' r.at
  pub high : r.height ≡ height S
  pub many : r.nodes ≡ nodes S

-- of a use, what stands behind its number and the opening of its path: the rest of the path, its closing parenthesis, and the body's strip if there is a body
abbrev pub rest_bytes : List Step → Option Strip → List ℕ
rest_bytes path none = path_bytes path ++ octets ")"
rest_bytes path (some X) = path_bytes path ++ (octets ")" ++ written X)

abbrev pub rest_height : Option Strip → ℕ
rest_height none = 0
rest_height (some X) = height X

abbrev pub rest_nodes : Option Strip → ℕ
rest_nodes none = 0
rest_nodes (some X) = nodes X

pub record DrawsRest (at : ℕ) (path : List Step) (B : Option Strip) (d d' : List ℕ) (r : Drawn) : Type 0 where
  pub puts : Puts at (rest_bytes path B) d d' r.at
  pub high : r.height ≡ rest_height B
  pub many : r.nodes ≡ rest_nodes B

-- the body's strip at the end of a path: none where the clause is an atom, else the one that is found for the body
abbrev pub ended : {Q : Type 0} → (Goal Q → Bindings → Option Strip) → End Q → Option (Option Strip)
ended prove (End.at_atom b bs) = some none
ended prove (End.at_imp g b bs) = prove g bs >>= λ X. some (some X)

-- the strip of a use
abbrev pub use_of : ℕ → List Step → Option Strip → Strip
use_of k path none = Strip.use₀ k path
use_of k path (some X) = Strip.use₁ k path X
