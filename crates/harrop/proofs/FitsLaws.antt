-- A strip is a proof exactly if every node fits at its place (document 01, "When a strip fits"); here the one half, and what stands where.
use Prim.Native.Nat.{ℕ, zero, suc, ◌<◌}
use mathlib.Core.Path.{◌≡◌, refl, sym, ◌∙◌, ap, subst}
use mathlib.Core.List.{List, [], ◌∷◌}
use mathlib.Core.Option.{some, some-injective}
use lib.ListN.{get_elem?}
use Rattle.basics.specs.Choice.{nope, bind-some}
use Rattle.harrop.specs.Formula.{Goal, Strip}
use Rattle.harrop.specs.Bindings.{Bindings}
use Rattle.harrop.specs.Place.{Candidates, Hand, Place, End, place}
use Rattle.harrop.specs.Proves.{Proves, ProvesAt, by-top, by_and, by_left, by_right, by-some, by_all, by-imp, by-use₀, by-use₁}
use Rattle.harrop.specs.Position.{Position, parts, part_at, Before, node-first, earlier-part, same-part}
use Rattle.harrop.proofs.PlaceLaws.{same_end}
use Rattle.harrop.proofs.PositionLaws.{root-comes-first}
use Rattle.harrop.specs.Fits.{Fits, FitsAt, Fitting, Stands, FitsThere, FirstMisfit, EveryNodeFits, at-root, in-part, fits-top, fits_and, fits-left, fits-right, fits-some, fits_all, fits-imp, fits-use₀, fits-use₁}

module _ {Q : Type 0} (cs : Candidates Q) where
  -- two lists of places and parts: each part proves at its place
  pub data EachProves : List (Place Q) → List Strip → Type 0 where
    none_left : EachProves [] []
    and-more : {pl : Place Q} {P : Strip} {places : List (Place Q)} {ps : List Strip} → ProvesAt cs pl P → EachProves places ps → EachProves (pl ∷ places) (P ∷ ps)

  -- a proof: its first node fits, and each part is a proof at its place
  abbrev pub Split : List Q → Hand Q → Bindings → Goal Q → Strip → Type 0
  Split o c bs g P = (places : List (Place Q)) × Fits cs o c bs g P places × EachProves places (parts P)

  pub proof-split : {o : List Q} {c : Hand Q} {bs : Bindings} {g : Goal Q} {P : Strip} → Proves cs o c bs g P → Split o c bs g P
  proof-split by-top = (_, fits-top, none_left)
  proof-split (by_and t u) = (_, fits_and, and-more t (and-more u none_left))
  proof-split (by_left t) = (_, fits-left, and-more t none_left)
  proof-split (by_right t) = (_, fits-right, and-more t none_left)
  proof-split (by-some m t) = (_, fits-some m, and-more t none_left)
  proof-split (by_all t) = (_, fits_all, and-more t none_left)
  proof-split (by-imp t) = (_, fits-imp, and-more t none_left)
  proof-split (by-use₀ e r s) = (_, fits-use₀ e r s, none_left)
  proof-split (by-use₁ e r s t) = (_, fits-use₁ e r s, and-more t none_left)

  -- and back
  pub proof-joined : {o : List Q} {c : Hand Q} {bs : Bindings} {g : Goal Q} {P : Strip} {places : List (Place Q)} → Fits cs o c bs g P places → EachProves places (parts P) → Proves cs o c bs g P
  proof-joined fits-top none_left = by-top
  proof-joined fits_and (and-more t (and-more u none_left)) = by_and t u
  proof-joined fits-left (and-more t none_left) = by_left t
  proof-joined fits-right (and-more t none_left) = by_right t
  proof-joined (fits-some m) (and-more t none_left) = by-some m t
  proof-joined fits_all (and-more t none_left) = by_all t
  proof-joined fits-imp (and-more t none_left) = by-imp t
  proof-joined (fits-use₀ e r s) none_left = by-use₀ e r s
  proof-joined (fits-use₁ e r s) (and-more t none_left) = by-use₁ e r s t

  -- part number i of a proof is a proof at its place
  pub part-proves : {places : List (Place Q)} {ps : List Strip} → EachProves places ps → (i : ℕ) (R : Strip) → get_elem? ps i ≡ some R → (pl : Place Q) × (get_elem? places i ≡ some pl) × ProvesAt cs pl R
  part-proves none_left i R e = nope e
  part-proves (and-more {pl = pl} {P = P} t r) zero R e = (pl, refl, subst (λ (X : Strip). ProvesAt cs pl X) (some-injective P R e) t)
  part-proves (and-more t r) (suc i) R e = part-proves r i R e

  -- a node that stands somewhere is in the strip
  pub stands-in-strip : {pl pl₁ : Place Q} {P R : Strip} {at : Position} → Stands cs pl P at pl₁ R → part_at P at ≡ some R
  stands-in-strip at-root = refl
  stands-in-strip (in-part f q e s) = rw e (stands-in-strip s)

  -- a node has one place: its parts' places follow from its own
  pub fits-one-way : {o : List Q} {c : Hand Q} {bs : Bindings} {g : Goal Q} {P : Strip} {places places₁ : List (Place Q)} → Fits cs o c bs g P places → Fits cs o c bs g P places₁ → places ≡ places₁
  fits-one-way fits-top fits-top = refl
  fits-one-way fits_and fits_and = refl
  fits-one-way fits-left fits-left = refl
  fits-one-way fits-right fits-right = refl
  fits-one-way (fits-some m) (fits-some n) = refl
  fits-one-way fits_all fits_all = refl
  fits-one-way fits-imp fits-imp = refl
  fits-one-way (fits-use₀ e r s) (fits-use₀ f t u) = refl
  fits-one-way (fits-use₁ {o = o} {c = c} {k = k} e r s) (fits-use₁ f t u) = ap (λ (x : End Q). elim x [ End.at_atom a ds ↦ [] | End.at_imp i a ds ↦ place o c ds i ∷ [] ]) (same_end cs c k e r f t)

  pub stands-at-one-place : {pl pl₁ pl₂ : Place Q} {P R S : Strip} {at : Position} → Stands cs pl P at pl₁ R → Stands cs pl P at pl₂ S → pl₁ ≡ pl₂
  stands-at-one-place at-root at-root = refl
  stands-at-one-place (in-part {pl₁ = pl₁} {R = R} {places = places} {i = i} f q e s) (in-part {pl₁ = pl₂} {pl₂ = pl₃} {R = R₁} {S = S₁} {at = at} f₁ q₁ e₁ s₁) =
      let p : pl₂ ≡ pl₁ = some-injective pl₂ pl₁ (sym q₁ ∙ (ap (λ (x : List (Place Q)). get_elem? x i) (fits-one-way f₁ f) ∙ q)) in
      let r : R₁ ≡ R = some-injective R₁ R (sym e₁ ∙ e) in
      stands-at-one-place s (subst (λ (x : Place Q). Stands cs x R at pl₃ S₁) p (subst (λ (X : Strip). Stands cs pl₂ X at pl₃ S₁) r s₁))

  -- a node of a part is a node of the whole
  pub part-fits-there : {pl pl₁ : Place Q} {P R S : Strip} {places : List (Place Q)} {i : ℕ} {at : Position} → FitsAt cs pl P places → get_elem? places i ≡ some pl₁ → get_elem? (parts P) i ≡ some R → FitsThere cs pl₁ R at S → FitsThere cs pl P (i ∷ at) S
  part-fits-there f q e (pl₂, s, t) = (pl₂, in-part f q e s, t)

  -- the first node of a strip is the strip at no part numbers
  pub root-fits-there : {pl : Place Q} {P : Strip} {places : List (Place Q)} (R : Strip) → FitsAt cs pl P places → some P ≡ some R → FitsThere cs pl P [] R
  root-fits-there {pl} {P} {places} R f e = subst (λ (X : Strip). FitsThere cs pl P [] X) (some-injective P R e) (pl, at-root, (places, f))

  -- every node of a proof fits at its place
  pub proof-every-node-fits : (pl : Place Q) (P : Strip) → ProvesAt cs pl P → EveryNodeFits cs pl P
  proof-every-node-fits pl P t [] R e = let (places, f, ps) = proof-split t in root-fits-there R f e
  proof-every-node-fits pl P t (i ∷ at) R e =
      let (S, a, b) = bind-some (get_elem? (parts P) i) (λ (X : Strip). part_at X at) R e in
      let (places, f, ps) = proof-split t in
      let (pl₁, q, u) = part-proves ps i S a in
      part-fits-there f q a (proof-every-node-fits pl₁ S u at R b)

  -- where a strip's first node does not fit, it is the first that does not
  pub misfit-here : (pl : Place Q) (P : Strip) → (Fitting cs pl P → ⊥) → FirstMisfit cs pl P []
  misfit-here pl P n = record { its-place = pl; node = P; stands = at-root; misfits = n; all-before = λ at R b e. absurd (root-comes-first b refl) }

  -- where it fits, the first that does not is that of the first part that has one
  pub misfit-in-part : {pl pl₁ : Place Q} {P R : Strip} {places : List (Place Q)} (i : ℕ) (at : Position) → FitsAt cs pl P places → get_elem? places i ≡ some pl₁ → get_elem? (parts P) i ≡ some R → FirstMisfit cs pl₁ R at → ((j : ℕ) (S : Strip) → j < i → get_elem? (parts P) j ≡ some S → (pl₂ : Place Q) × (get_elem? places j ≡ some pl₂) × EveryNodeFits cs pl₂ S) → FirstMisfit cs pl P (i ∷ at)
  misfit-in-part {pl} {pl₁} {P} {R} i at f q e m fine =
      record { its-place = m.its-place; node = m.node; stands = in-part f q e m.stands; misfits = m.misfits; all-before = λ at₁ S b w. earlier S b w }
    where
      earlier : {at₁ : Position} (S : Strip) → Before at₁ (i ∷ at) → part_at P at₁ ≡ some S → FitsThere cs pl P at₁ S
      earlier S node-first w = root-fits-there S f w
      earlier S (earlier-part {i = j} {at = at₂} l) w =
          let (X, a, b) = bind-some (get_elem? (parts P) j) (λ (X : Strip). part_at X at₂) S w in
          let (pl₂, r, every) = fine j X l a in
          part-fits-there f r a (every at₂ S b)
      earlier S (same-part {at = at₂} b) w = part-fits-there f q e (m.all-before at₂ S b (rw e at w))
