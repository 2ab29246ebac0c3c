-- The order is total on the proofs at a place; the first proof in document 01's sense is the least of them within the height; there is only one.
use Prim.Native.Nat.{ℕ, zero, suc, ◌≤◌}
use mathlib.Core.Path.{◌≡◌, refl, sym, ap₂, subst}
use mathlib.Core.Logic.{◌⊎◌, inl, inr}
use mathlib.Core.List.{List, ◌∷◌}
use native.Mathlib.Omega.{arith}
use Rattle.harrop.specs.Formula.{Strip, height}
use Rattle.harrop.specs.Place.{Candidates, Place}
use Rattle.harrop.specs.Proves.{ProvesAt}
use Rattle.harrop.specs.Position.{parts}
use Rattle.harrop.specs.Order.{chosen, Earlier, EarlierParts, Compared, by-option, by_parts, this-part, next-part}
use Rattle.harrop.specs.First.{First, FirstParts, first_one, no-parts, more_parts}
use Rattle.harrop.proofs.FitsLaws.{EachProves, none_left, and-more, proof-split, proof-joined}
use Rattle.harrop.proofs.HeightLaws.{Low, no-strip-within-0, parts_within, within-parts}
use Rattle.harrop.proofs.OrderLaws.{Beside, beside, option-before, option-same, option-after, option-not-before-itself}

module _ {Q : Type 0} (cs : Candidates Q) where
  parts-compared : {n : ℕ} {places : List (Place Q)} {ps rs : List Strip} → ((pl : Place Q) (P R : Strip) → height P ≤ n → ProvesAt cs pl P → ProvesAt cs pl R → Compared Earlier P R) → Low n ps → EachProves cs places ps → EachProves cs places rs → Compared EarlierParts ps rs
  parts-compared ih low none_left none_left = Compared.same refl
  parts-compared ih low (and-more {pl = pl} {P = P} {ps = ps} t each) (and-more {P = R} {ps = rs} u each₁) = go (ih pl P R low.0 t u) (parts-compared ih low.1 each each₁)
    where
      go : Compared Earlier P R → Compared EarlierParts ps rs → Compared EarlierParts (P ∷ ps) (R ∷ rs)
      go (Compared.before b) w = Compared.before (this-part b)
      go (Compared.after b) w = Compared.after (this-part b)
      go (Compared.same e) (Compared.before b) = subst (λ (X : Strip). Compared EarlierParts (P ∷ ps) (X ∷ rs)) e (Compared.before (next-part b))
      go (Compared.same e) (Compared.same q) = Compared.same (ap₂ {C = List Strip} ◌∷◌ e q)
      go (Compared.same e) (Compared.after b) = subst (λ (X : Strip). Compared EarlierParts (P ∷ ps) (X ∷ rs)) e (Compared.after (next-part b))

  -- of two proofs at one place one is before the other, or they are the same
  compared-within : (n : ℕ) (pl : Place Q) (P R : Strip) → height P ≤ n → ProvesAt cs pl P → ProvesAt cs pl R → Compared Earlier P R
  compared-within zero pl P R l t u = absurd (no-strip-within-0 P l)
  compared-within (suc n) pl P R l t u =
      let (places, f, each) = proof-split cs t in
      let (places₁, f₁, each₁) = proof-split cs u in
      go places places₁ each each₁ (beside cs f f₁) (λ pl P R l t u. compared-within n pl P R l t u)
    where
      by : chosen P ≡ chosen R → (parts P ≡ parts R → P ≡ R) → Compared EarlierParts (parts P) (parts R) → Compared Earlier P R
      by e q (Compared.before b) = Compared.before (by_parts e b)
      by e q (Compared.same s) = Compared.same (q s)
      by e q (Compared.after b) = Compared.after (by_parts (sym e) b)

      go : (places places₁ : List (Place Q)) → EachProves cs places (parts P) → EachProves cs places₁ (parts R) → Beside cs P R places places₁ → ((pl : Place Q) (P R : Strip) → height P ≤ n → ProvesAt cs pl P → ProvesAt cs pl R → Compared Earlier P R) → Compared Earlier P R
      go places places₁ each each₁ (option-before b) ih = Compared.before (by-option b)
      go places places₁ each each₁ (option-same e q s) ih =
          by e s (parts-compared ih (parts_within P l) each (subst (λ (x : List (Place Q)). EachProves cs x (parts R)) (sym q) each₁))
      go places places₁ each each₁ (option-after b) ih = Compared.after (by-option b)

  pub proofs-compared : (pl : Place Q) (P R : Strip) → ProvesAt cs pl P → ProvesAt cs pl R → Compared Earlier P R
  proofs-compared pl P R t u = compared-within (height P) pl P R (omega arith) t u

  -- the first is a proof within the height
  mutual
    pub first-proves : {h : ℕ} {pl : Place Q} {P : Strip} → First cs h pl P → ProvesAt cs pl P
    first-proves (first_one f n w) = proof-joined cs f (firsts-prove w)

    pub firsts-prove : {h : ℕ} {places : List (Place Q)} {ps : List Strip} → FirstParts cs h places ps → EachProves cs places ps
    firsts-prove no-parts = none_left
    firsts-prove (more_parts a w) = and-more (first-proves a) (firsts-prove w)

  mutual
    pub first-within : {h : ℕ} {pl : Place Q} {P : Strip} → First cs h pl P → height P ≤ h
    first-within (first_one {P = P} f n w) = within-parts P (firsts-within w)

    pub firsts-within : {h : ℕ} {places : List (Place Q)} {ps : List Strip} → FirstParts cs h places ps → Low h ps
    firsts-within no-parts = tt
    firsts-within (more_parts a w) = (first-within a, firsts-within w)

  parts-least : {h : ℕ} {places : List (Place Q)} {ps rs : List Strip} → ((pl : Place Q) (P R : Strip) → First cs h pl P → ProvesAt cs pl R → height R ≤ h → Earlier R P → ⊥) → FirstParts cs h places ps → EachProves cs places rs → Low h rs → EarlierParts rs ps → ⊥
  parts-least ih (more_parts {pl = pl} {P = P} a w) (and-more {P = R} t each) low (this-part b) = ih pl P R a t low.0 b
  parts-least ih (more_parts a w) (and-more t each) low (next-part b) = parts-least ih w each low.1 b
  parts-least ih no-parts _ low b = elim b [ ]

  -- no proof within the height is before the first
  pub none-before-the-first : (h : ℕ) (pl : Place Q) (P R : Strip) → First cs h pl P → ProvesAt cs pl R → height R ≤ h → Earlier R P → ⊥
  none-before-the-first zero pl P R a t l b = no-strip-within-0 R l
  none-before-the-first (suc h) pl P R (first_one f n w) t l (by-option b) = n R t l b
  none-before-the-first (suc h) pl P R (first_one {places = places} f n w) t l (by_parts e b) =
      let (places₁, f₁, each) = proof-split cs t in
      go places₁ each (beside cs f₁ f) (λ pl P R a t l b. none-before-the-first h pl P R a t l b)
    where
      go : (places₁ : List (Place Q)) → EachProves cs places₁ (parts R) → Beside cs R P places₁ places → ((pl : Place Q) (P R : Strip) → First cs h pl P → ProvesAt cs pl R → height R ≤ h → Earlier R P → ⊥) → ⊥
      go places₁ each (option-before q) ih = option-not-before-itself q e
      go places₁ each (option-same q s z) ih = parts-least ih w (subst (λ (x : List (Place Q)). EachProves cs x (parts R)) s each) (parts_within R l) b
      go places₁ each (option-after q) ih = option-not-before-itself q (sym e)

  -- the first is the least of the proofs within the height: each is the first itself, or comes after it
  pub the-first-is-the-least : (h : ℕ) (pl : Place Q) (P R : Strip) → First cs h pl P → ProvesAt cs pl R → height R ≤ h → (P ≡ R) ⊎ Earlier P R
  the-first-is-the-least h pl P R a t l = go (proofs-compared pl P R (first-proves a) t)
    where
      go : Compared Earlier P R → (P ≡ R) ⊎ Earlier P R
      go (Compared.before b) = inr b
      go (Compared.same e) = inl e
      go (Compared.after b) = absurd (none-before-the-first h pl P R a t l b)

  -- there is only one first proof
  pub only-one-is-first : (h : ℕ) (pl : Place Q) (P R : Strip) → First cs h pl P → First cs h pl R → P ≡ R
  only-one-is-first h pl P R a b = go (proofs-compared pl P R (first-proves a) (first-proves b))
    where
      go : Compared Earlier P R → P ≡ R
      go (Compared.before w) = absurd (none-before-the-first h pl R P b (first-proves a) (first-within a) w)
      go (Compared.same e) = e
      go (Compared.after w) = absurd (none-before-the-first h pl P R a (first-proves b) (first-within b) w)
