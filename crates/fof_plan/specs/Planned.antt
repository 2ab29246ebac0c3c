-- What a plan comes to: the marks that it writes, what is due then, the variables bound then, and the signs left. That this is what fof_part's machine does with the due is `Plans`.
use Rattle.std.specs.Prelude.{ℕ, ◌<◌, ◌≤◌, ◌≡◌, Bool, true, false, List, [], ◌∷◌, ◌++◌, length}
use Rattle.std.proofs.Math.Option.{Option, some}
use Rattle.basics.specs.Choice.{◌>>=◌, provided}
use Rattle.basics.specs.Text.{octets}
use Rattle.harrop.specs.Formula.{Name}
use Rattle.sexp.specs.Decimal.{decimal}
use Rattle.sexp.specs.Words.{is_name}
use Rattle.fof_truth.specs.Numbered.{Scope, number_of}
use Rattle.fof_part.specs.Sign.{Sign, code}
use Rattle.fof_part.specs.Mark.{Mark}
use Rattle.fof_part.specs.Due as part
use Rattle.fof_part.specs.Due.{Did, did, due_at, headed, many_headed, link_word, quantifier_word, left, taking}
use Rattle.fof_pass.specs.declared.dues.Due.{Due}
use Rattle.fof_pass.specs.declared.dues.Due.TheVariants as D
use Rattle.fof_plan.specs.declared.plan.Writes.{Writes}
use Rattle.fof_plan.specs.declared.plan.Writes.TheVariants as W
use Rattle.fof_plan.specs.declared.plan.Plan.{Plan}
use Rattle.fof_pass.specs.Ahead.{signs_at, name_in}
use Rattle.fof_pass.specs.Dues.{link_is, quantifier_is, meant, Few}

-- the sign ahead: its number (16 where there is none) and the name that it holds
abbrev pub code_ahead : List Sign → ℕ
code_ahead [] = 16
code_ahead (s ∷ ss) = code s

abbrev pub name_ahead : List Sign → Name
name_ahead [] = []
name_ahead (s ∷ ss) = name_in s

-- the signs left, whether or not the one ahead is taken
abbrev pub beyond : Bool → List Sign → List Sign
beyond false ss = ss
beyond true [] = []
beyond true (s ∷ ss) = ss

-- the marks that are written, where they can be: a name has to be one of document 01, a variable has to be bound
abbrev pub written : Writes → Scope → List Sign → Option (List Mark)
written W.Nothing sc ss = some []
written (W.Heads c n) sc ss = some (many_headed (link_word (link_is c)) n)
written W.Implies sc ss = some (headed (octets "imp"))
written (W.Binds e) sc ss = some (headed (quantifier_word (quantifier_is e)))
written W.Top sc ss = some (headed (octets "top") ++ (Mark.end ∷ []))
written W.Atom sc ss = provided (is_name (name_ahead ss)) (some (headed (octets "atom") ++ (Mark.string (name_ahead ss) ∷ [])))
written W.Function sc ss = provided (is_name (name_ahead ss)) (some (headed (octets "f") ++ (Mark.string (name_ahead ss) ∷ [])))
written W.Variable sc ss = number_of sc (name_ahead ss) >>= λ i. some (headed (octets "v") ++ (Mark.string (decimal i) ∷ Mark.end ∷ []))
written W.End sc ss = some (Mark.end ∷ [])
written W.Leaves sc ss = some (Mark.end ∷ [])

-- the variables bound then
abbrev pub scope_then : Writes → Scope → List Sign → Scope
scope_then W.Nothing sc ss = sc
scope_then (W.Heads c n) sc ss = sc
scope_then W.Implies sc ss = sc
scope_then (W.Binds e) sc ss = name_ahead ss ∷ sc
scope_then W.Top sc ss = sc
scope_then W.Atom sc ss = sc
scope_then W.Function sc ss = sc
scope_then W.Variable sc ss = sc
scope_then W.End sc ss = sc
scope_then W.Leaves sc ss = left sc

abbrev pub dues_in : Plan → List part.Due
dues_in p = meant p.first ++ (meant p.second ++ (meant p.third ++ meant p.fourth))

abbrev pub planned : Plan → Scope → List Sign → Option Did
planned p sc ss = provided p.ok (written p.writes sc ss >>= λ ms. did ms (dues_in p) (scope_then p.writes sc ss) (beyond p.takes ss))

-- the plan where nothing can be done, and one that can be: whether the sign is taken, what is written, what is due then
abbrev pub refusal : Plan
refusal = record {
  ok = false;
  takes = false;
  writes = W.Nothing;
  first = D.Nothing;
  second = D.Nothing;
  third = D.Nothing;
  fourth = D.Nothing;
}

abbrev pub doing : Bool → Writes → Due ℕ → Due ℕ → Due ℕ → Due ℕ → Plan
doing t w a b c d = record { ok = true; takes = t; writes = w; first = a; second = b; third = c; fourth = d }

-- the sign that a name is written of is one that holds it; a variable that becomes bound is taken
abbrev pub Named : Writes → Bool → ℕ → Type 0
Named W.Nothing t c = Unit {0}
Named (W.Heads x n) t c = Unit {0}
Named W.Implies t c = Unit {0}
Named (W.Binds e) t c = (c ≡ 1) × (t ≡ true)
Named W.Top t c = Unit {0}
Named W.Atom t c = c ≡ 0
Named W.Function t c = c ≡ 0
Named W.Variable t c = c ≡ 1
Named W.End t c = Unit {0}
Named W.Leaves t c = Unit {0}

-- what holds of a plan wherever a sign of this number is ahead; n is the one number that its dues may be made of
pub record Sane (c n : ℕ) (p : Plan) : Type 0 where
  pub named : Named p.writes p.takes c
  pub taken : p.takes ≡ true → c < 16
  pub few : n < 16385 → Few p.first × Few p.second × Few p.third × Few p.fourth

-- the plan for what f does
pub record PlansAs (f : Scope → List Sign → Option Did) (c n : ℕ) (p : Plan) : Type 0 where
  pub does : (ss : List Sign) → c ≡ code_ahead ss → (sc : Scope) → f sc ss ≡ planned p sc ss
  pub sane : Sane c n p

-- the sign of a number is taken and these are due then; where it is not ahead, nothing can be done
abbrev pub taking_to : ℕ → List part.Due → Scope → List Sign → Option Did
taking_to c ds sc ss = taking c ss >>= λ r. did [] ds sc r

-- three dues may be made of the number n: theirs are no more than a text has bytes, if n is
abbrev pub FewBy : ℕ → Due ℕ → Due ℕ → Due ℕ → Type 0
FewBy n a b c = n < 16385 → Few a × Few b × Few c

-- the plan for a due at a place
pub record Plans (t : List ℕ) (at : ℕ) (d : Due ℕ) (c : ℕ) (p : Plan) : Type 0 where
  pub does : (ss : List Sign) → signs_at t at ≡ some ss → c ≡ code_ahead ss → (x : part.Due) → meant d ≡ x ∷ [] → (sc : Scope) → due_at x sc ss ≡ planned p sc ss
  pub named : Named p.writes p.takes c
  pub taken : p.takes ≡ true → c < 16
  pub few : length t ≤ 16384 → Few d → Few p.first × Few p.second × Few p.third × Few p.fourth
