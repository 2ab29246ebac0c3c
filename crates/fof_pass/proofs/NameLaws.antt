-- The number of a variable, looked for from the nearest on.
use Prim.Native.Nat.{ℕ, suc, ◌+◌, ◌-◌, ◌≤◌, ◌<◌}
use mathlib.Core.Path.{◌≡◌, refl, sym, ◌∙◌, ap, subst}
use mathlib.Core.Bool.{Bool, true, false}
use mathlib.Core.List.{List, [], ◌∷◌}
use mathlib.Core.Option.{Option, none, some}
use native.Mathlib.Omega.{arith}
use lib.ListN.{get_or}
use Rattle.basics.specs.Choice.{choose, ◌>>=◌}
use Rattle.basics.specs.Tells.{Tells}
use Rattle.harrop.specs.Formula.{Name}
use Rattle.harrop.specs.Bindings.{same_name}
use Rattle.harrop.proofs.SameLaws.{same-names-equal, equal-names-same}
use Rattle.fof_truth.specs.Numbered.{Scope, number_of}
use Rattle.fof_part.specs.Sign.{Sign}
use Rattle.fof_pass.specs.declared.ahead.Ahead.{Ahead}
use Rattle.fof_pass.specs.Ahead.{signs_at, between, Aheads}
use Rattle.fof_pass.specs.Names.{Scoped}

-- what is left of the variables when i of them have another name
pub record Left (t ns : List ℕ) (bound i : ℕ) (x : Name) (sc : Scope) : Type 0 where
  pub rest : Scope
  pub there : Scoped t ns (bound - i) rest
  pub number : number_of sc x ≡ (number_of rest x >>= λ j. some (i + j))

from-none : (o : Option ℕ) → o ≡ (o >>= λ j. some (0 + j))
from-none none = refl
from-none (some j) = ap some {x = j} {y = 0 + j} (omega arith)

one_more : (o : Option ℕ) (i : ℕ) → ((o >>= λ k. some (suc k)) >>= λ j. some (i + j)) ≡ (o >>= λ j. some (i + 1 + j))
one_more none i = refl
one_more (some k) i = ap some {x = i + suc k} {y = i + 1 + k} (omega arith)

module _ (t ns : List ℕ) (x : Name) where
  pub left-all : (bound : ℕ) (sc : Scope) → Scoped t ns bound sc → Left t ns bound 0 x sc
  left-all bound sc h = record { rest = sc; there = subst (λ (n : ℕ). Scoped t ns n sc) {x = bound} {y = bound - 0} (omega arith) h; number = from-none (number_of sc x) }

  -- none is left
  pub left-none : (bound i : ℕ) (sc : Scope) → bound ≤ i → Left t ns bound i x sc → none ≡ number_of sc x
  left-none bound i sc l w = go w.rest w.there w.number
    where
      go : (r : Scope) → Scoped t ns (bound - i) r → number_of sc x ≡ (number_of r x >>= λ j. some (i + j)) → none ≡ number_of sc x
      go [] h e = sym e
      go (y ∷ r) (m, f, ss, g, h) e = absurd (omega arith)

  -- the next has the name, or another
  module _ (bound i p : ℕ) (a : Ahead) (l : i < bound) (q : p ≡ get_or ns (bound - 1 - i) 0) (see : Aheads t p a) {v : List ℕ} (cut : v ≡ between t a.start a.end) where
    name-there : (y : Name) (m : ℕ) (ss : List Sign) → bound - i ≡ suc m → signs_at t (get_or ns m 0) ≡ some (Sign.upper y ∷ ss) → v ≡ y
    name-there y m ss e h =
        let z = see.seen (Sign.upper y ∷ ss) (ap (signs_at t) (q ∙ ap (λ (n : ℕ). get_or ns n 0) {x = bound - 1 - i} {y = m} (omega arith)) ∙ h) in
        cut ∙ z.name (omega (arith, z.number))

    pub left-hit : {b : Bool} (sc : Scope) → b ≡ true → Tells b (v ≡ x) → Left t ns bound i x sc → some i ≡ number_of sc x
    left-hit {b} sc f told w = go w.rest w.there w.number
      where
        go : (r : Scope) → Scoped t ns (bound - i) r → number_of sc x ≡ (number_of r x >>= λ j. some (i + j)) → some i ≡ number_of sc x
        go [] h e = absurd (omega arith)
        go (y ∷ r) (m, k, ss, g, h) e =
            let s = equal-names-same x y (sym (subst (λ (c : Bool). Tells c (v ≡ x)) f told) ∙ name-there y m ss k g) in
            ap some {x = i} {y = i + 0} (omega arith)
            ∙ sym (ap (λ (c : Bool). choose c (some 0) (number_of r x >>= λ j. some (suc j)) >>= λ j. some (i + j)) s)
            ∙ sym e

    pub left-miss : {b : Bool} (sc : Scope) → b ≡ false → Tells b (v ≡ x) → Left t ns bound i x sc → Left t ns bound (i + 1) x sc
    left-miss {b} sc f told w = go w.rest w.there w.number
      where
        other : (y : Name) → v ≡ y → (c : Bool) → same_name x y ≡ c → same_name x y ≡ false
        other y e true g = absurd (subst (λ (c : Bool). Tells c (v ≡ x)) f told (e ∙ sym (same-names-equal x y g)))
        other y e false g = g

        go : (r : Scope) → Scoped t ns (bound - i) r → number_of sc x ≡ (number_of r x >>= λ j. some (i + j)) → Left t ns bound (i + 1) x sc
        go [] h e = absurd (omega arith)
        go (y ∷ r) (m, k, ss, g, h) e = record {
          rest = r;
          there = subst (λ (n : ℕ). Scoped t ns n r) {x = m} {y = bound - (i + 1)} (omega arith) h;
          number =
              e
              ∙ ap (λ (c : Bool). choose c (some 0) (number_of r x >>= λ j. some (suc j)) >>= λ j. some (i + j)) (other y (name-there y m ss k g) (same_name x y) refl)
              ∙ one_more (number_of r x) i;
        }
