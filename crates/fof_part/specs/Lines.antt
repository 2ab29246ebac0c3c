-- The lines of a text of the part, one after the other: for each its role and the marks of the rule or the goal that it becomes; none where a line is outside the part (document 02, One).
use Rattle.std.specs.Prelude.{ℕ, zero, suc, List, [], ◌∷◌, length}
use Rattle.std.proofs.Math.Option.{Option, none, some}
use Rattle.basics.specs.Choice.{choose, ◌>>=◌, provided}
use Rattle.basics.specs.Text.{octets}
use Rattle.harrop.specs.Formula.{Name}
use Rattle.harrop.specs.Bindings.{same_name}
use Rattle.sexp.specs.Words.{is_name}
use Rattle.packet.specs.Written.{goal_sexp, clause_sexp}
use Rattle.fof_truth.specs.Formula.{Role}
use Rattle.fof_truth.specs.Sentence.{Sentence}
use Rattle.fof_part.specs.Sign.{Sign, opens_code, closes_code, comma_code, dot_code}
use Rattle.fof_part.specs.Mark.{Mark, marks_of}
use Rattle.fof_part.specs.Due.{Sort, taking, formula_at}

-- a lower-case word, and what is left
abbrev pub word : List Sign → Option (Name × List Sign)
word [] = none
word (Sign.lower w ∷ ss) = some (w, ss)
word (Sign.upper w ∷ ss) = none
word (Sign.truth ∷ ss) = none
word (Sign.opens ∷ ss) = none
word (Sign.closes ∷ ss) = none
word (Sign.lists ∷ ss) = none
word (Sign.ends ∷ ss) = none
word (Sign.comma ∷ ss) = none
word (Sign.colon ∷ ss) = none
word (Sign.dot ∷ ss) = none
word (Sign.every ∷ ss) = none
word (Sign.exist ∷ ss) = none
word (Sign.both ∷ ss) = none
word (Sign.either ∷ ss) = none
word (Sign.then ∷ ss) = none
word (Sign.other ∷ ss) = none

abbrev pub role_of : Name → Option Role
role_of w = choose (same_name w (octets "axiom")) (some Role.as_axiom) (choose (same_name w (octets "conjecture")) (some Role.as_conjecture) none)

abbrev pub sort_of : Role → Sort
sort_of Role.as_axiom = Sort.clause
sort_of Role.as_conjecture = Sort.goal

-- a line: its role, the marks of what it becomes, and what is left
pub record Read : Type 0 where
  pub role : Role
  pub marks : List Mark
  pub rest : List Sign

-- fof(label, role, up to the formula
abbrev pub introduced : List Sign → Option (Role × List Sign)
introduced ss = do
  f ← word ss
  o ← provided (same_name f.0 (octets "fof")) (taking opens_code f.1)
  l ← word o
  c ← provided (is_name l.0) (taking comma_code l.1)
  r ← word c
  k ← role_of r.0
  s ← taking comma_code r.1
  some (k, s)

unfoldable pub line_at : List Sign → Option Read
line_at ss = do
  i ← introduced ss
  x ← formula_at (sort_of i.0) i.1
  c ← taking closes_code x.rest
  d ← taking dot_code c
  some (record { role = i.0; marks = x.marks; rest = d })

-- all lines, at most f of them
unfoldable pub lines_from : ℕ → List Sign → Option (List (Role × List Mark))
lines_from zero [] = some []
lines_from zero (s ∷ ss) = none
lines_from (suc f) [] = some []
lines_from (suc f) (s ∷ ss) = line_at (s ∷ ss) >>= λ l. lines_from f l.rest >>= λ ls. some ((l.role, l.marks) ∷ ls)

unfoldable pub lines_at : List Sign → Option (List (Role × List Mark))
lines_at ss = lines_from (length ss) ss

-- the same of what a line becomes by crate fof_truth: a rule of an axiom, a goal of a conjecture
abbrev pub item : Sentence → Role × List Mark
item (Sentence.rule d) = (Role.as_axiom, marks_of (clause_sexp d))
item (Sentence.goal g) = (Role.as_conjecture, marks_of (goal_sexp g))

abbrev pub items : List Sentence → List (Role × List Mark)
items [] = []
items (s ∷ ss) = item s ∷ items ss
