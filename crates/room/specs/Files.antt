-- The files that a proof walks through, as bytes: rules, goal and candidates (document 01, "What the desk judges"). The strip is no part of them.
use Rattle.std.specs.Prelude.{ℕ, List}
use Rattle.room.specs.declared.Source.{Source}
use Rattle.room.specs.declared.Source.TheVariants.{Rules, Goal, Terms}

-- the bytes of rules, goal and terms
pub record Files : Type 0 where
  pub rules : List ℕ
  pub goal : List ℕ
  pub terms : List ℕ

abbrev pub files_of : List ℕ → List ℕ → List ℕ → Files
files_of rs gs ts = record { rules = rs; goal = gs; terms = ts }

-- the file that is meant
abbrev pub file_of : Files → Source → List ℕ
file_of f Rules = f.rules
file_of f Goal = f.goal
file_of f Terms = f.terms
