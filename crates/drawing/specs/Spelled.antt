-- A strip's bytes as they are written, node by node (document 01, the table of words): a node's head, its number and path, then its parts and a closing parenthesis.
use Rattle.std.specs.Prelude.{ℕ, List}
use Rattle.harrop.specs.Formula.{Step, Strip}
use Rattle.sexp.specs.Sexp.{spell, spells}
use Rattle.packet.specs.Written.{each, step_sexp, strip_sexp}

-- a strip's bytes
abbrev pub written : Strip → List ℕ
written S = spell (strip_sexp S)

-- a step's bytes, and those of the steps of a path
unfoldable pub step_bytes : Step → List ℕ
step_bytes s = spell (step_sexp s)

unfoldable pub path_bytes : List Step → List ℕ
path_bytes path = spells (each step_sexp path)
