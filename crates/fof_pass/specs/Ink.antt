-- Marks written into a buffer by a pen that counts the lists that are open, no more than 64 of them, and keeps in mind whether they ever went deeper (document 01, refusal 3: level 65).
-- That it keeps in mind exactly whether the marks go deeper than 64 is `deep_is` in proofs/InkLaws.
use Rattle.std.specs.Prelude.{ℕ, suc, ◌-◌, ◌≤◌, ◌≡◌, Bool, true, List, [], ◌∷◌, ltb, length}
use Rattle.basics.specs.Choice.{choose}
use Rattle.pen.specs.Laid.{largest, Puts}
use Rattle.fof_part.specs.Mark.{Mark, inked}
use Rattle.fof_pass.specs.declared.ink.Pen.{Pen}

-- the lists that are open, and whether they went deeper than 64
abbrev pub Level : Type 0
Level = ℕ × Bool

abbrev pub begun : Level → Level
begun l = choose (ltb l.0 64) (suc l.0, l.1) (l.0, true)

abbrev pub leveled : Level → List Mark → Level
leveled l [] = l
leveled l (Mark.begin ∷ ms) = leveled (begun l) ms
leveled l (Mark.string w ∷ ms) = leveled l ms
leveled l (Mark.end ∷ ms) = leveled (l.0 - 1, l.1) ms

abbrev pub level_of : Pen → Level
level_of p = (p.depth, p.deep)

-- the marks are written with pen p, whose place is counted, into the buffer d, which becomes d'; the pen is then q
pub record Inks (ms : List Mark) (p : Pen) (d d' : List ℕ) (q : Pen) : Type 0 where
  pub puts : p.at ≤ largest → Puts p.at (inked ms) d d' q.at
  pub long : length d' ≡ length d
  pub level : level_of q ≡ leveled (level_of p) ms
