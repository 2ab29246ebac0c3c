-- What the stack of dues, the bound variables and the place hold while a formula is read, and what a plan that is carried out makes of them.
use Rattle.std.specs.Prelude.{ℕ, ◌+◌, ◌*◌, ◌<◌, ◌≤◌, ◌≡◌, Bool, true, false, List, [], ◌∷◌, ◌++◌, length}
use Rattle.std.proofs.Math.Option.{Option, none, some}
use Rattle.basics.specs.Choice.{◌>>=◌, provided}
use Rattle.basics.specs.Text.{octets}
use Rattle.harrop.specs.Formula.{Name}
use Rattle.sexp.specs.Decimal.{decimal}
use Rattle.sexp.specs.Words.{is_name}
use Rattle.fof_truth.specs.Numbered.{Scope, number_of}
use Rattle.fof_part.specs.Sign.{Sign}
use Rattle.fof_part.specs.Mark.{Mark}
use Rattle.fof_part.specs.Due.{Due, Did, Ran, Sort, due_at, costs, formula_at, headed}
use Rattle.fof_pass.specs.declared.ink.Pen.{Pen}
use Rattle.fof_pass.specs.declared.ahead.Ahead.{Ahead}
use Rattle.fof_plan.specs.declared.plan.Plan.{Plan}
use Rattle.fof_plan.specs.declared.plan.Writes.{Writes}
use Rattle.fof_pass.specs.Codes.{code_is}
use Rattle.fof_pass.specs.Ahead.{signs_at, Aheads}
use Rattle.fof_pass.specs.Dues.{Stack, Held, Few}
use Rattle.fof_pass.specs.Ink.{Inks}
use Rattle.fof_pass.specs.Names.{Scoped}
use Rattle.fof_plan.specs.Planned.{written, scope_then, dues_in, planned, Named}
use Rattle.fof_act.specs.declared.act.Now.{Now}
use Rattle.fof_act.specs.declared.act.Wrote.{Wrote}

-- the marks of the head of an atom or a function, where its name is one of document 01; and of a variable, where it is bound
abbrev pub named_marks : List ℕ → Name → Option (List Mark)
named_marks word x = provided (is_name x) (some (headed word ++ (Mark.string x ∷ [])))

abbrev pub variable_marks : Scope → Name → Option (List Mark)
variable_marks sc x = number_of sc x >>= λ i. some (headed (octets "v") ++ (Mark.string (decimal i) ∷ Mark.end ∷ []))

-- marks that are there are written, and where there are none it says so
abbrev pub WrittenAs : Option (List Mark) → Wrote → Pen → List ℕ → List ℕ → Type 0
WrittenAs none r p d d' = r.ok ≡ false
WrittenAs (some ms) r p d d' = (r.ok ≡ true) × Inks ms p d d' r.pen

pub record Writing (t ns : List ℕ) (bound : ℕ) (d d' : List ℕ) (p : Pen) (a : Ahead) (w : Writes) (r : Wrote) : Type 0 where
  pub long : length d' ≡ length d
  pub does : (at : ℕ) (takes : Bool) (sc : Scope) (ss : List Sign) → signs_at t at ≡ some ss → Aheads t at a → Named w takes (code_is a.sign) → Scoped t ns bound sc → WrittenAs (written w sc ss) r p d d'

pub record Binding (ns ns' : List ℕ) (bound at : ℕ) (w : Writes) (r : ℕ) : Type 0 where
  pub long : length ns' ≡ length ns
  pub does : (t : List ℕ) (takes : Bool) (a : Ahead) (sc : Scope) (ss : List Sign) → signs_at t at ≡ some ss → Aheads t at a → Named w takes (code_is a.sign) → bound ≤ 16384 → 16385 ≤ length ns → Scoped t ns bound sc → Scoped t ns' r (scope_then w sc ss)

pub record Pushing (st st' : Stack) (top : ℕ) (p : Plan) (r : ℕ) : Type 0 where
  pub long : length st' ≡ length st
  pub does : (ds : List Due) → Held st top ds → length (dues_in p ++ ds) < 98400 → 98400 ≤ length st → Few p.first × Few p.second × Few p.third × Few p.fourth → Held st' r (dues_in p ++ ds)

-- the work memory has room for what a text of at most 16,384 bytes can ask of it
abbrev pub Enough : List Due → Scope → List Sign → Type 0
Enough ds sc ss = (costs ds + 6 * length ss < 98400) × (length sc + length ss ≤ 16384)

abbrev pub Roomy : Stack → List ℕ → Type 0
Roomy st ns = (98400 ≤ length st) × (16385 ≤ length ns)

-- these are due, these variables are bound, and these signs are ahead
pub record Holds (t : List ℕ) (st : Stack) (ns : List ℕ) (n : Now) (ds : List Due) (sc : Scope) (ss : List Sign) : Type 0 where
  pub dues : Held st n.top ds
  pub names : Scoped t ns n.bound sc
  pub signs : signs_at t n.at ≡ some ss
  pub enough : Enough ds sc ss
  pub roomy : Roomy st ns

-- what one due did, before the others
abbrev pub DoneAs : Option Did → List Due → List ℕ → Stack → List ℕ → List ℕ → List ℕ → Pen → Now → Type 0
DoneAs none ds t st ns d d' p r = r.ok ≡ false
DoneAs (some x) ds t st ns d d' p r = (r.ok ≡ true) × Holds t st ns r (x.dues ++ ds) x.scope x.rest × Inks x.marks p d d' r.pen

-- the memory keeps its lengths
pub record Kept (st st' : Stack) (ns ns' d d' : List ℕ) : Type 0 where
  pub stack : length st' ≡ length st
  pub names : length ns' ≡ length ns
  pub bytes : length d' ≡ length d

pub record Acts (t : List ℕ) (st st' : Stack) (ns ns' d d' : List ℕ) (n : Now) (a : Ahead) (p : Plan) (r : Now) : Type 0 where
  pub kept : Kept st st' ns ns' d d'
  pub does : (ds : List Due) (sc : Scope) (ss : List Sign) → Holds t st ns n ds sc ss → Aheads t n.at a → Named p.writes p.takes (code_is a.sign) → (p.takes ≡ true → (code_is a.sign) < 16) → Few p.first × Few p.second × Few p.third × Few p.fourth → ((x : Did) → planned p sc ss ≡ some x → Enough (x.dues ++ ds) x.scope x.rest) → DoneAs (planned p sc ss) ds t st' ns' d d' n.pen r

-- one due, the one on top
pub record Steps (t : List ℕ) (st st' : Stack) (ns ns' d d' : List ℕ) (n r : Now) : Type 0 where
  pub kept : Kept st st' ns ns' d d'
  pub does : length t ≤ 16384 → (x : Due) (ds : List Due) (sc : Scope) (ss : List Sign) → Holds t st ns n (x ∷ ds) sc ss → DoneAs (due_at x sc ss) ds t st' ns' d d' n.pen r

-- a formula that is read: its marks are written and the place is behind it; or there is none
abbrev pub ReadAs : Option Ran → List ℕ → List ℕ → List ℕ → Pen → Now → Type 0
ReadAs none t d d' p r = r.ok ≡ false
ReadAs (some x) t d d' p r = (r.ok ≡ true) × (signs_at t r.at ≡ some x.rest) × Inks x.marks p d d' r.pen

pub record Formulas (t : List ℕ) (st st' : Stack) (ns ns' d d' : List ℕ) (p : Pen) (at : ℕ) (s : Sort) (r : Now) : Type 0 where
  pub kept : Kept st st' ns ns' d d'
  pub does : length t ≤ 16384 → Roomy st ns → (ss : List Sign) → signs_at t at ≡ some ss → ReadAs (formula_at s ss) t d d' p r
