-- The stack of dues, pushed and read.
use Prim.Native.Nat.{ℕ, ◌+◌, ◌≤◌}
use mathlib.Core.Path.{◌≡◌, refl, sym, ◌∙◌, ap, subst}
use mathlib.Core.List.{List, [], ◌∷◌, ◌++◌}
use native.Mathlib.Omega.{arith}
use lib.ListN.{get_or, set, length-set}
use lib.Seq.{get_or-set_same, get_or-set_other}
use Rattle.fof_part.specs.Due as part
use Rattle.fof_pass.specs.declared.dues.Due.{Due}
use Rattle.fof_pass.specs.declared.dues.Due.TheVariants as D
use Rattle.fof_pass.specs.Dues.{sort_is, link_is, quantifier_is, meant, Few, Stack, Held, Pushes}

-- what is due, if it is not nothing
pub something : (d : Due ℕ) → (d ≡ D.Nothing → ⊥) → (x : part.Due) × (meant d ≡ x ∷ [])
something D.Nothing n = absurd (n refl)
something (D.Formula s) n = (part.Due.formula (sort_is s), refl)
something (D.Unit s) n = (part.Due.unit (sort_is s), refl)
something (D.More c s m) n = (part.Due.more (link_is c) (sort_is s) m, refl)
something D.Arrow n = (part.Due.arrow, refl)
something D.Close n = (part.Due.close, refl)
something (D.List e s) n = (part.Due.list (quantifier_is e) (sort_is s), refl)
something (D.Variable e s) n = (part.Due.variable (quantifier_is e) (sort_is s), refl)
something (D.Behind e s) n = (part.Due.behind (quantifier_is e) (sort_is s), refl)
something (D.Over s) n = (part.Due.over (sort_is s), refl)
something D.Arguments n = (part.Due.arguments, refl)
something D.Term n = (part.Due.term, refl)
something D.Terms n = (part.Due.terms, refl)
something D.Shut n = (part.Due.shut, refl)
something D.Leave n = (part.Due.leave, refl)

-- what is written at or above the height leaves the dues below
held-set : (ds : List part.Due) (st : Stack) (top i : ℕ) (x : Due ℕ) → Held st top ds → top ≤ i → Held (set st i x) top ds
held-set [] st top i x h l = h
held-set (d ∷ ds) st top i x (n, e, m, f, h) l =
    let o = sym (get_or-set_other st i n x D.Nothing (λ z. absurd (omega arith))) in
    (n, e, subst (λ (y : Due ℕ). meant y ≡ d ∷ []) o m, subst Few o f, held-set ds st n i x h (omega arith))

module _ (d : Due ℕ) (st : Stack) (top : ℕ) where
  pub push-nothing : d ≡ D.Nothing → Pushes d st st top top
  push-nothing e = record {
    held = λ _ _ _ ds h. subst (λ (x : List part.Due). Held st top (x ++ ds)) (sym (ap meant e)) h;
    long = refl;
    high = omega arith;
  }

  -- what is written is the due, where its number is few
  pub push-one : {y : Due ℕ} → (Few d → y ≡ d) → (d ≡ D.Nothing → ⊥) → Pushes d st (set st top y) top (top + 1)
  push-one {y} is e = record {
    held = λ _ l few ds h.
        let (x, m) = something d e in
        let o : d ≡ get_or (set st top y) top D.Nothing = sym (get_or-set_same st top y D.Nothing l ∙ is few) in
        subst (λ (z : List part.Due). Held (set st top y) (top + 1) (z ++ ds)) (sym m)
        (top, omega arith, subst (λ (z : Due ℕ). meant z ≡ x ∷ []) o m, subst Few o few, held-set ds st top top y h (omega arith));
    long = length-set st top y;
    high = omega arith;
  }

  pub push-out : 98400 ≤ top → Pushes d st st top top
  push-out l = record { held = λ m _ _ ds h. absurd (omega arith); long = refl; high = omega arith }
