-- A sign is told by its number.
use Prim.Native.Nat.{ℕ, ◌<◌}
use mathlib.Core.Path.{◌≡◌, refl, sym, ◌∙◌, ap}
use mathlib.Core.Bool.{Bool, true, false, not}
use native.Mathlib.Omega.{arith}
use lib.Dec.{eqb}
use denote.Enum.Bare.{sameb, same_true, same_false, differs_true, differs_false}
use Rattle.basics.specs.Choice.{choose}
use Rattle.fof_pass.specs.contracts.ahead.Sign.{the_type}
use Rattle.fof_pass.specs.declared.ahead.Sign.{Sign}
use Rattle.fof_pass.specs.declared.ahead.Sign.TheVariants as S
use Rattle.fof_pass.specs.Codes.{code_is}

sign_at : ℕ → Sign
sign_at k = choose (eqb k 0) S.Lower (choose (eqb k 1) S.Upper (choose (eqb k 2) S.Truth (choose (eqb k 3) S.Opens (choose (eqb k 4) S.Closes (choose (eqb k 5) S.Lists (choose (eqb k 6) S.Ends (choose (eqb k 7) S.Comma (choose (eqb k 8) S.Colon (choose (eqb k 9) S.Dot (choose (eqb k 10) S.Every (choose (eqb k 11) S.Exist (choose (eqb k 12) S.Both (choose (eqb k 13) S.Either (choose (eqb k 14) S.Then (choose (eqb k 15) S.Other S.Nothing)))))))))))))))

again : (s : Sign) → sign_at (code_is s) ≡ s
unfolding sign_at
again S.Lower = refl
again S.Upper = refl
again S.Truth = refl
again S.Opens = refl
again S.Closes = refl
again S.Lists = refl
again S.Ends = refl
again S.Comma = refl
again S.Colon = refl
again S.Dot = refl
again S.Every = refl
again S.Exist = refl
again S.Both = refl
again S.Either = refl
again S.Then = refl
again S.Other = refl
again S.Nothing = refl

pub code-only : (s r : Sign) → code_is s ≡ code_is r → s ≡ r
code-only s r e = sym (again s) ∙ ap sign_at e ∙ again r

pub code-low : (s : Sign) → (s ≡ S.Nothing → ⊥) → code_is s < 16
code-low S.Lower n = omega arith
code-low S.Upper n = omega arith
code-low S.Truth n = omega arith
code-low S.Opens n = omega arith
code-low S.Closes n = omega arith
code-low S.Lists n = omega arith
code-low S.Ends n = omega arith
code-low S.Comma n = omega arith
code-low S.Colon n = omega arith
code-low S.Dot n = omega arith
code-low S.Every n = omega arith
code-low S.Exist n = omega arith
code-low S.Both n = omega arith
code-low S.Either n = omega arith
code-low S.Then n = omega arith
code-low S.Other n = omega arith
code-low S.Nothing n = absurd (n refl)

-- what `==` answers
pub same-code : (a b : Sign) {r : Bool} → r ≡ sameb the_type a b → r ≡ true → code_is a ≡ code_is b
same-code a b e f = ap code_is (same_true the_type tt a b (sym e ∙ f))

pub other-code : (a b : Sign) {r : Bool} → r ≡ sameb the_type a b → r ≡ false → code_is a ≡ code_is b → ⊥
other-code a b e f k = same_false the_type a b (sym e ∙ f) (code-only a b k)

-- and what `!=` answers
pub alike-code : (a b : Sign) {r : Bool} → r ≡ not (sameb the_type a b) → r ≡ false → code_is a ≡ code_is b
alike-code a b e f = ap code_is (differs_false the_type tt a b (sym e ∙ f))

pub unlike-code : (a b : Sign) {r : Bool} → r ≡ not (sameb the_type a b) → r ≡ true → code_is a ≡ code_is b → ⊥
unlike-code a b e f k = differs_true the_type a b (sym e ∙ f) (code-only a b k)
