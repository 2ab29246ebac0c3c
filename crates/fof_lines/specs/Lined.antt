-- What is answered of a line, and of all lines: what fof_part's `introduced`, `line_at` and `lines_at` say of the signs ahead.
use Rattle.std.specs.Prelude.{ℕ, ◌+◌, ◌<◌, ◌≤◌, ◌≡◌, true, false, List, [], ◌∷◌, length}
use Rattle.std.proofs.Math.Option.{Option, none, some}
use Rattle.std.specs.Prelude.{Some, None}
use Rattle.std.specs.Prelude as std
use Rattle.basics.specs.Choice.{◌>>=◌, provided}
use Rattle.basics.specs.Text.{octets}
use Rattle.harrop.specs.Bindings.{same_name}
use Rattle.sexp.specs.Words.{is_name}
use Rattle.fof_truth.specs.Formula as truth
use Rattle.fof_part.specs.Sign.{Sign, opens_code, closes_code, comma_code, dot_code}
use Rattle.fof_part.specs.Mark.{Mark}
use Rattle.fof_part.specs.Due.{Sort, Ran, taking, formula_at, headed}
use Rattle.fof_part.specs.Lines.{word, role_of, sort_of, introduced, Read, line_at, lines_at}
use Rattle.fof_part.specs.Files.{axiom_then, conjecture_then, axioms_in, conjectures_in, joined, rules_marks}
use Rattle.fof_pass.specs.declared.ink.Pen.{Pen}
use Rattle.fof_pass.specs.Ahead.{signs_at}
use Rattle.fof_pass.specs.Dues.{Stack}
use Rattle.fof_pass.specs.Ink.{Inks}
use Rattle.fof_act.specs.declared.act.Now.{Now}
use Rattle.fof_lines.specs.declared.line.Role.{Role}
use Rattle.fof_lines.specs.declared.line.Role.TheVariants as R
use Rattle.fof_lines.specs.declared.line.Opened.{Opened}
use Rattle.fof_lines.specs.declared.lines.Passed.{Passed}
use Rattle.fof_act.specs.Holding.{Roomy, Kept, ReadAs}

abbrev pub role_is : truth.Role → Role
role_is truth.Role.as_axiom = R.Axiom
role_is truth.Role.as_conjecture = R.Conjecture

-- what `introduced` is made of: fof( and a label with its comma, and a role with its own
abbrev pub opened : List Sign → Option (List Sign)
opened ss = word ss >>= λ f. provided (same_name f.0 (octets "fof")) (taking opens_code f.1)

abbrev pub labelled : List Sign → Option (List Sign)
labelled ss = word ss >>= λ l. provided (is_name l.0) (taking comma_code l.1)

abbrev pub roled : List Sign → Option (truth.Role × List Sign)
roled ss = do
  r ← word ss
  k ← role_of r.0
  s ← taking comma_code r.1
  some (k, s)

-- fof(label, role, up to the formula
abbrev pub OpenedAs : Option (truth.Role × List Sign) → List ℕ → std.Option Opened → Type 0
OpenedAs o t None = o ≡ none
OpenedAs o t (Some r) = (x : truth.Role × List Sign) × (o ≡ some x) × (r.role ≡ role_is x.0) × (signs_at t r.at ≡ some x.1)

pub record Introduces (t : List ℕ) (at : ℕ) (r : std.Option Opened) : Type 0 where
  pub does : (ss : List Sign) → signs_at t at ≡ some ss → OpenedAs (introduced ss) t r

-- a formula and what closes its line
abbrev pub closed : Option Ran → Option Ran
closed o = do
  x ← o
  c ← taking closes_code x.rest
  d ← taking dot_code c
  some (record { marks = x.marks; scope = x.scope; rest = d })

pub record Bodies (t : List ℕ) (st st' : Stack) (ns ns' d d' : List ℕ) (p : Pen) (at : ℕ) (s : Sort) (r : Now) : Type 0 where
  pub kept : Kept st st' ns ns' d d'
  pub does : length t ≤ 16384 → Roomy st ns → (ss : List Sign) → signs_at t at ≡ some ss → ReadAs (closed (formula_at s ss)) t d d' p r

-- a line that is read: its marks are behind those of its file, the other file is left alone, and it is counted
pub record Added (x : Read) (t rs rs' gs gs' : List ℕ) (p r : Passed) : Type 0 where
  pub ok : r.ok ≡ true
  pub signs : signs_at t r.at ≡ some x.rest
  pub rules : Inks (joined (axiom_then x.role x.marks [])) p.rules rs rs' r.rules
  pub goal : Inks (joined (conjecture_then x.role x.marks [])) p.goal gs gs' r.goal
  pub axioms : r.axioms ≡ p.axioms + length (axiom_then x.role x.marks [])
  pub conjectures : r.conjectures ≡ p.conjectures + length (conjecture_then x.role x.marks [])

abbrev pub AddedAs : Option Read → List ℕ → List ℕ → List ℕ → List ℕ → List ℕ → Passed → Passed → Type 0
AddedAs none t rs rs' gs gs' p r = r.ok ≡ false
AddedAs (some x) t rs rs' gs gs' p r = Added x t rs rs' gs gs' p r

-- the memory keeps its lengths, both buffers too
pub record KeptBoth (st st' : Stack) (ns ns' rs rs' gs gs' : List ℕ) : Type 0 where
  pub stack : length st' ≡ length st
  pub names : length ns' ≡ length ns
  pub rules : length rs' ≡ length rs
  pub goal : length gs' ≡ length gs

-- the lines before it are counted, and there is room to count one more
abbrev pub Counted : Passed → Type 0
Counted p = (p.axioms < 16385) × (p.conjectures < 16385)

-- what is left of a line whose role is known
abbrev pub lined : truth.Role → List Sign → Option Read
lined k ss = closed (formula_at (sort_of k) ss) >>= λ x. some (record { role = k; marks = x.marks; rest = x.rest })

pub record Lines (k : truth.Role) (t : List ℕ) (st st' : Stack) (ns ns' rs rs' gs gs' : List ℕ) (p : Passed) (at : ℕ) (r : Passed) : Type 0 where
  pub kept : KeptBoth st st' ns ns' rs rs' gs gs'
  pub does : length t ≤ 16384 → Roomy st ns → Counted p → (ss : List Sign) → signs_at t at ≡ some ss → AddedAs (lined k ss) t rs rs' gs gs' p r

pub record Adds (t : List ℕ) (st st' : Stack) (ns ns' rs rs' gs gs' : List ℕ) (p r : Passed) : Type 0 where
  pub kept : KeptBoth st st' ns ns' rs rs' gs gs'
  pub does : length t ≤ 16384 → Roomy st ns → Counted p → (ss : List Sign) → signs_at t p.at ≡ some ss → AddedAs (line_at ss) t rs rs' gs gs' p r

-- all lines: the rules' marks in one buffer, the goals' in the other, and how many there are of each
abbrev pub begins : Pen
begins = record { at = 0; depth = 0; deep = false }

pub record Filed (is : List (truth.Role × List Mark)) (rs rs' gs gs' : List ℕ) (r : Passed) : Type 0 where
  pub ok : r.ok ≡ true
  pub rules : Inks (rules_marks (axioms_in is)) begins rs rs' r.rules
  pub goal : Inks (joined (conjectures_in is)) begins gs gs' r.goal
  pub axioms : r.axioms ≡ length (axioms_in is)
  pub conjectures : r.conjectures ≡ length (conjectures_in is)

abbrev pub FiledAs : Option (List (truth.Role × List Mark)) → List ℕ → List ℕ → List ℕ → List ℕ → Passed → Type 0
FiledAs none rs rs' gs gs' r = r.ok ≡ false
FiledAs (some is) rs rs' gs gs' r = Filed is rs rs' gs gs' r

pub record Passes (t rs rs' gs gs' : List ℕ) (r : Passed) : Type 0 where
  pub rules : length rs' ≡ length rs
  pub goal : length gs' ≡ length gs
  pub does : length t ≤ 16384 → (ss : List Sign) → signs_at t 0 ≡ some ss → FiledAs (lines_at ss) rs rs' gs gs' r

-- before the first line, with the head of the rules' file, and behind the last, with its end
pub record Starts (rs rs' : List ℕ) (r : Passed) : Type 0 where
  pub ok : r.ok ≡ true
  pub at : r.at ≡ 0
  pub rules : Inks (headed (octets "rules")) begins rs rs' r.rules
  pub goal : r.goal ≡ begins
  pub axioms : r.axioms ≡ 0
  pub conjectures : r.conjectures ≡ 0

pub record Ends (rs rs' : List ℕ) (p r : Passed) : Type 0 where
  pub ok : r.ok ≡ p.ok
  pub rules : Inks (Mark.end ∷ []) p.rules rs rs' r.rules
  pub goal : r.goal ≡ p.goal
  pub axioms : r.axioms ≡ p.axioms
  pub conjectures : r.conjectures ≡ p.conjectures

-- the same with the work memory that is lent
pub record PassesIn (t : List ℕ) (st st' : Stack) (ns ns' rs rs' gs gs' : List ℕ) (r : Passed) : Type 0 where
  pub kept : KeptBoth st st' ns ns' rs rs' gs gs'
  pub does : length t ≤ 16384 → Roomy st ns → (ss : List Sign) → signs_at t 0 ≡ some ss → FiledAs (lines_at ss) rs rs' gs gs' r
