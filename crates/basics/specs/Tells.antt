-- A test whose answer decides a statement: yes says it, and no refutes it. So no two answers are right.
use Rattle.std.specs.Prelude.{◌≡◌, refl, Bool, true, false}
use Rattle.std.proofs.Common.{subst}

abbrev pub Tells : Bool → Type 0 → Type 0
Tells true P = P
Tells false P = P → ⊥

-- one answer for every statement
pub tells-once : (P : Type 0) (a b : Bool) → Tells a P → Tells b P → a ≡ b
tells-once P true true h g = refl
tells-once P true false h g = absurd (g h)
tells-once P false true h g = absurd (h g)
tells-once P false false h g = refl

-- where the answer is known
pub told-yes : {P : Type 0} {r : Bool} → r ≡ true → Tells r P → P
told-yes {P} e h = subst (λ (x : Bool). Tells x P) e h

pub told-no : {P : Type 0} {r : Bool} → r ≡ false → Tells r P → P → ⊥
told-no {P} e h = subst (λ (x : Bool). Tells x P) e h

-- two statements that follow from each other have one answer
pub tells_as : {P Q : Type 0} (r : Bool) → (P → Q) → (Q → P) → Tells r P → Tells r Q
tells_as true f g h = f h
tells_as false f g h = λ q. h (g q)
