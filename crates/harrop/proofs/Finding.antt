-- The theorems of this crate on the search: it finds nothing exactly if there is no proof within the height; what it finds is the first proof in document 01's sense, the least in the order stated by itself, and there is only one; what is provable within a height is provable within the next.
use Prim.Native.Nat.{ℕ, ◌+◌, ◌≤◌}
use mathlib.Core.Path.{◌≡◌, refl, ◌∙◌, ap, subst}
use mathlib.Core.Logic.{◌⊎◌, inl, inr}
use mathlib.Core.Option.{Option, none, some}
use native.Mathlib.Omega.{arith}
use Rattle.harrop.specs.Formula.{Strip, height}
use Rattle.harrop.specs.Place.{Candidates, Place}
use Rattle.harrop.specs.Proves.{ProvesAt}
use Rattle.harrop.specs.Order.{Earlier}
use Rattle.harrop.specs.First.{Within, First}
use Rattle.harrop.specs.Search.{first_at}
use Rattle.harrop.proofs.FirstLaws.{first-proves, first-within, the-first-is-the-least, only-one-is-first}
use Rattle.harrop.proofs.SilentLaws.{silent-no-proof}
use Rattle.harrop.proofs.FoundLaws.{found-is-first}

module _ {Q : Type 0} (cs : Candidates Q) (h : ℕ) (pl : Place Q) where
  -- where nothing is found there is no proof within the height
  pub nothing-found-no-proof : first_at cs h pl ≡ none → Within cs h pl → ⊥
  nothing-found-no-proof e w = silent-no-proof cs h pl.opened pl.hand pl.bindings pl.goal w.strip w.proves w.is_low e

  -- what is found is a proof, within the height, and the first
  pub found-proves : (P : Strip) → first_at cs h pl ≡ some P → ProvesAt cs pl P
  found-proves P e = first-proves cs (found-is-first cs h pl.opened pl.hand pl.bindings pl.goal P e)

  pub found-within-the-height : (P : Strip) → first_at cs h pl ≡ some P → height P ≤ h
  found-within-the-height P e = first-within cs (found-is-first cs h pl.opened pl.hand pl.bindings pl.goal P e)

  pub found-is-the-first : (P : Strip) → first_at cs h pl ≡ some P → First cs h pl P
  found-is-the-first P e = found-is-first cs h pl.opened pl.hand pl.bindings pl.goal P e

  -- where there is no proof within the height nothing is found
  pub no-proof-nothing-found : (Within cs h pl → ⊥) → first_at cs h pl ≡ none
  no-proof-nothing-found n = go (first_at cs h pl) refl
    where
      go : (x : Option Strip) → first_at cs h pl ≡ x → first_at cs h pl ≡ none
      go none e = e
      go (some P) e = absurd (n (record { strip = P; proves = found-proves P e; is_low = found-within-the-height P e }))

  -- where there is one, the search finds
  pub proof-found : Within cs h pl → (P : Strip) × (first_at cs h pl ≡ some P)
  proof-found w = go (first_at cs h pl) refl
    where
      go : (x : Option Strip) → first_at cs h pl ≡ x → (P : Strip) × (first_at cs h pl ≡ some P)
      go none e = absurd (nothing-found-no-proof e w)
      go (some P) e = (P, e)

  -- the first is what is found
  pub the-first-is-found : (P : Strip) → First cs h pl P → first_at cs h pl ≡ some P
  the-first-is-found P a =
      let (R, e) = proof-found (record { strip = P; proves = first-proves cs a; is_low = first-within cs a }) in
      e ∙ ap some (only-one-is-first cs h pl R P (found-is-the-first R e) a)

  -- a proof within the height with none before it is the first
  pub the-least-is-the-first : (P : Strip) → ProvesAt cs pl P → height P ≤ h → ((R : Strip) → ProvesAt cs pl R → height R ≤ h → Earlier R P → ⊥) → First cs h pl P
  the-least-is-the-first P t l n =
      let (R, e) = proof-found (record { strip = P; proves = t; is_low = l }) in
      go R (found-is-the-first R e) (the-first-is-the-least cs h pl R P (found-is-the-first R e) t l)
    where
      go : (R : Strip) → First cs h pl R → (R ≡ P) ⊎ Earlier R P → First cs h pl P
      go R a (inl e) = subst (λ (X : Strip). First cs h pl X) e a
      go R a (inr b) = absurd (n R (first-proves cs a) (first-within cs a) b)

  -- whether there is a proof within a height is decidable
  pub whether-provable-within : Dec (Within cs h pl)
  whether-provable-within = go (first_at cs h pl) refl
    where
      go : (x : Option Strip) → first_at cs h pl ≡ x → Dec (Within cs h pl)
      go none e = no (nothing-found-no-proof e)
      go (some P) e = yes (record { strip = P; proves = found-proves P e; is_low = found-within-the-height P e })

  -- what is provable within a height is provable within one more
  pub provable-one-higher : Within cs h pl → Within cs (h + 1) pl
  provable-one-higher w = record { strip = w.strip; proves = w.proves; is_low = omega (arith, w.is_low) }

-- and what is found within a height, is found within one more, though it may be another
pub found-one-higher : {Q : Type 0} (cs : Candidates Q) (h : ℕ) (pl : Place Q) (P : Strip) → first_at cs h pl ≡ some P → (R : Strip) × (first_at cs (h + 1) pl ≡ some R)
found-one-higher cs h pl P e =
    proof-found cs (h + 1) pl (provable-one-higher cs h pl (record { strip = P; proves = found-proves cs h pl P e; is_low = found-within-the-height cs h pl P e }))
