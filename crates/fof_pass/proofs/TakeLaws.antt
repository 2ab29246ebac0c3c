-- A sign that is expected, taken or not.
use Prim.Native.Nat.{ℕ, ◌<◌}
use mathlib.Core.Path.{◌≡◌, refl, sym, ◌∙◌, ap}
use mathlib.Core.Bool.{Bool}
use mathlib.Core.List.{List, [], ◌∷◌}
use mathlib.Core.Option.{some}
use native.Mathlib.Omega.{arith}
use borrow.Author.Tests.{eq-eqb, ne_eqb}
use Rattle.basics.specs.Choice.{provided}
use Rattle.fof_part.specs.Sign.{Sign, code}
use Rattle.fof_part.specs.Due.{taking}
use Rattle.fof_pass.specs.declared.ahead.Ahead.{Ahead}
use Rattle.std.specs.Prelude.{Some, None}
use Rattle.fof_pass.specs.Codes.{code_is}
use Rattle.fof_pass.specs.Ahead.{signs_at, SeesAll, Aheads}
use Rattle.fof_pass.specs.Taking.{TakesTo}

module _ (t : List ℕ) (a : Ahead) (wanted : ℕ) (l : wanted < 16) where
  took : (ss : List Sign) → (code_is a.sign) ≡ wanted → SeesAll t a ss → TakesTo t (Some a.end) (taking wanted ss)
  took [] e h = absurd (omega arith)
  took (s ∷ ss) e h = (ss, ap (λ (b : Bool). provided b (some ss)) (eq-eqb (code s) wanted (sym h.number ∙ e)), h.rest)

  left : (ss : List Sign) → ((code_is a.sign) ≡ wanted → ⊥) → SeesAll t a ss → TakesTo t None (taking wanted ss)
  left [] n h = refl
  left (s ∷ ss) n h = ap (λ (b : Bool). provided b (some ss)) (ne_eqb (code s) wanted (λ e. n (h.number ∙ e)))

pub take-hit : (t : List ℕ) (at : ℕ) (a : Ahead) (wanted : ℕ) → Aheads t at a → (code_is a.sign) ≡ wanted → wanted < 16 → (ss : List Sign) → signs_at t at ≡ some ss → TakesTo t (Some a.end) (taking wanted ss)
take-hit t at a wanted h e l ss s = took t a wanted l ss e (h.seen ss s)

pub take-miss : (t : List ℕ) (at : ℕ) (a : Ahead) (wanted : ℕ) → Aheads t at a → ((code_is a.sign) ≡ wanted → ⊥) → wanted < 16 → (ss : List Sign) → signs_at t at ≡ some ss → TakesTo t None (taking wanted ss)
take-miss t at a wanted h n l ss s = left t a wanted l ss n (h.seen ss s)
