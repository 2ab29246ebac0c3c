-- The order on the proofs at a place, by itself: nothing is before itself, and of two options of one place one is before the other or they are the same.
use Prim.Native.Nat.{ℕ, ◌<◌}
use mathlib.Core.Path.{◌≡◌, refl, sym, ◌∙◌, ap, ap₂, subst}
use mathlib.Core.List.{List, [], ◌∷◌}
use mathlib.Core.Option.{some, some-injective}
use native.Mathlib.Omega.{arith}
use lib.ListN.{get_elem?}
use Rattle.harrop.specs.declared.Binding.TheVariants.{Candidate}
use Rattle.harrop.specs.Formula.{Atom, Goal, Clause, Step, Strip}
use Rattle.harrop.specs.Bindings.{Bindings}
use Rattle.harrop.specs.Place.{Candidates, AtHand, Hand, Place, End, place}
use Rattle.harrop.specs.Proves.{Reaches, at-atom, at-imp, by_number, by-l, by-r}
use Rattle.harrop.specs.Position.{parts}
use Rattle.harrop.specs.Fits.{Fits, fits-top, fits_and, fits-left, fits-right, fits-some, fits_all, fits-imp, fits-use₀, fits-use₁}
use Rattle.harrop.specs.Order.{Chosen, chosen, StepBefore, PathBefore, OptionBefore, Earlier, EarlierParts, Compared, l-r, lower, this-step, next-step, left-right, by-candidate, by-clause, by-path, by-option, by_parts, this-part, next-part}
use Rattle.harrop.proofs.NumberLaws.{numbers-compared}
use Rattle.harrop.proofs.PlaceLaws.{same_end}

pub step-not-before-itself : {s t : Step} → StepBefore s t → s ≡ t → ⊥
step-not-before-itself l-r e = let z : ◌≡◌ {A = ℕ} 0 1 = cc in omega arith
step-not-before-itself (lower {i = i} {j = j} l) e = let z : i ≡ j = cc in omega arith

pub path-not-before-itself : {path path₁ : List Step} → PathBefore path path₁ → path ≡ path₁ → ⊥
path-not-before-itself (this-step {s = s} {t = t} b) e = step-not-before-itself b (cc)
path-not-before-itself (next-step b) e = path-not-before-itself b (cc)

pub option-not-before-itself : {x y : Chosen} → OptionBefore x y → x ≡ y → ⊥
option-not-before-itself left-right e = let z : ◌≡◌ {A = ℕ} 0 1 = cc in omega arith
option-not-before-itself (by-candidate {i = i} {j = j} l) e = let z : i ≡ j = cc in omega arith
option-not-before-itself (by-clause {k = k} {m = m} l) e = let z : k ≡ m = cc in omega arith
option-not-before-itself (by-path b) e = path-not-before-itself b (cc)

-- no proof is before itself
mutual
  pub proof-not-before-itself : {P R : Strip} → Earlier P R → P ≡ R → ⊥
  proof-not-before-itself (by-option b) e = option-not-before-itself b (ap chosen e)
  proof-not-before-itself (by_parts q w) e = parts-not-before-themselves w (ap parts e)

  pub parts-not-before-themselves : {ps rs : List Strip} → EarlierParts ps rs → ps ≡ rs → ⊥
  parts-not-before-themselves (this-part w) e = proof-not-before-itself w (cc)
  parts-not-before-themselves (next-part w) e = parts-not-before-themselves w (cc)

-- what is before something that is before a third is before the third
pub path-order-carries : {path path₁ path₂ : List Step} → PathBefore path path₁ → PathBefore path₁ path₂ → PathBefore path path₂
path-order-carries (this-step (lower {i = i} a)) (this-step (lower {j = j} b)) = this-step (lower {i = i} {j = j} (omega arith))
path-order-carries (this-step a) (next-step b) = this-step a
path-order-carries (next-step a) (this-step b) = this-step b
path-order-carries (next-step a) (next-step b) = next-step (path-order-carries a b)
path-order-carries (this-step l-r) (this-step b) = elim b [ ]

pub option-order-carries : {x y z : Chosen} → OptionBefore x y → OptionBefore y z → OptionBefore x z
option-order-carries (by-candidate {i = i} a) (by-candidate {j = j} b) = by-candidate {i = i} {j = j} (omega arith)
option-order-carries (by-clause {k = k} a) (by-clause {m = m} b) = by-clause {k = k} {m = m} (omega arith)
option-order-carries (by-clause a) (by-path b) = by-clause a
option-order-carries (by-path a) (by-clause b) = by-clause b
option-order-carries (by-path a) (by-path b) = by-path (path-order-carries a b)
option-order-carries left-right b = elim b [ ]

mutual
  pub order-carries : {P R S : Strip} → Earlier P R → Earlier R S → Earlier P S
  order-carries (by-option a) (by-option b) = by-option (option-order-carries a b)
  order-carries {P} (by-option a) (by_parts e w) = by-option (subst (λ (x : Chosen). OptionBefore (chosen P) x) e a)
  order-carries {S = S} (by_parts e w) (by-option b) = by-option (subst (λ (x : Chosen). OptionBefore x (chosen S)) (sym e) b)
  order-carries (by_parts e w) (by_parts f u) = by_parts (e ∙ f) (parts-order-carries w u refl)

  pub parts-order-carries : {ps rs rs₁ ss : List Strip} → EarlierParts ps rs → EarlierParts rs₁ ss → rs ≡ rs₁ → EarlierParts ps ss
  parts-order-carries (this-part {R = R} a) (this-part {P = R₁} {R = S} b) e =
      let q : R₁ ≡ R = cc in
      this-part (order-carries a (subst (λ (X : Strip). Earlier X S) q b))
  parts-order-carries (this-part {P = P} {R = R} a) (next-part {P = S} b) e =
      let q : R ≡ S = cc in
      this-part (subst (λ (X : Strip). Earlier P X) q a)
  parts-order-carries (next-part {P = P} a) (this-part {P = R} {R = S} b) e =
      let q : R ≡ P = cc in
      this-part (subst (λ (X : Strip). Earlier X S) q b)
  parts-order-carries (next-part {P = P} {ps = ps} {rs = rs} a) (next-part {P = S} {ps = rs₁} {rs = ss} b) e =
      let q : P ≡ S = cc in
      subst (λ (X : Strip). EarlierParts (P ∷ ps) (X ∷ ss)) q (next-part (parts-order-carries a b (cc)))

ends-differ : {Q : Type 0} {a b : Atom} {bs bs₁ : Bindings} {g : Goal Q} → Path (End Q) (End.at_atom a bs) (End.at_imp g b bs₁) → ⊥
ends-differ e = let z : ◌≡◌ {A = ℕ} 0 1 = cc in omega arith

next-compared : {path path₁ : List Step} (s : Step) → Compared PathBefore path path₁ → Compared PathBefore (s ∷ path) (s ∷ path₁)
next-compared s (Compared.before b) = Compared.before (next-step b)
next-compared s (Compared.same e) = Compared.same (ap (λ (p : List Step). s ∷ p) e)
next-compared s (Compared.after b) = Compared.after (next-step b)

module _ {Q : Type 0} (cs : Candidates Q) where
  -- two paths that end in one clause
  pub paths-compared : {o : List Q} {d : Clause Q} {bs : Bindings} {path path₁ : List Step} {x y : End Q} → Reaches cs o d bs path x → Reaches cs o d bs path₁ y → Compared PathBefore path path₁
  paths-compared at-atom at-atom = Compared.same refl
  paths-compared at-imp at-imp = Compared.same refl
  paths-compared {o} (by_number {d = d} {bs = bs} {i = i} {path = p} m t) (by_number {i = j} {path = p₁} {x = y} n u) = go (numbers-compared i j) (λ v. paths-compared t v)
    where
      go : Compared ◌<◌ i j → (Reaches cs o d (Candidate i ∷ bs) p₁ y → Compared PathBefore p p₁) → Compared PathBefore (Step.n i ∷ p) (Step.n j ∷ p₁)
      go (Compared.before l) ih = Compared.before (this-step (lower l))
      go (Compared.same e) ih =
          subst (λ (z : ℕ). Compared PathBefore (Step.n i ∷ p) (Step.n z ∷ p₁)) e
          (next-compared (Step.n i) (ih (subst (λ (z : ℕ). Reaches cs o d (Candidate z ∷ bs) p₁ y) (sym e) u)))
      go (Compared.after l) ih = Compared.after (this-step (lower l))
  paths-compared (by-l t) (by-l u) = next-compared Step.l (paths-compared t u)
  paths-compared (by-l t) (by-r u) = Compared.before (this-step l-r)
  paths-compared (by-r t) (by-l u) = Compared.after (this-step l-r)
  paths-compared (by-r t) (by-r u) = next-compared Step.r (paths-compared t u)

  -- two uses at one place: one before the other, or the same with the same end
  data Uses (k : ℕ) (path : List Step) (x : End Q) (m : ℕ) (path₁ : List Step) (y : End Q) : Type 0 where
    use-before : OptionBefore (Chosen.clause k path) (Chosen.clause m path₁) → Uses k path x m path₁ y
    use-same : k ≡ m → path ≡ path₁ → x ≡ y → Uses k path x m path₁ y
    use-after : OptionBefore (Chosen.clause m path₁) (Chosen.clause k path) → Uses k path x m path₁ y

  uses : {o : List Q} (c : Hand Q) (k m : ℕ) {path path₁ : List Step} {d d₁ : AtHand Q} {x y : End Q} → get_elem? c k ≡ some d → Reaches cs o d.clause d.bindings path x → get_elem? c m ≡ some d₁ → Reaches cs o d₁.clause d₁.bindings path₁ y → Uses k path x m path₁ y
  uses {o} c k m {path} {path₁} {d} {d₁} {x} {y} e r f t = go (numbers-compared k m)
    where
      onto : (z : ℕ) → k ≡ z → get_elem? c k ≡ some d₁ → Compared PathBefore path path₁ → Uses k path x z path₁ y
      onto z q f₁ (Compared.before b) = subst (λ (z : ℕ). Uses k path x z path₁ y) q (use-before (by-path b))
      onto z q f₁ (Compared.same w) =
          use-same q w (same_end cs c k e r f₁ (subst (λ (p : List Step). Reaches cs o d₁.clause d₁.bindings p y) (sym w) t))
      onto z q f₁ (Compared.after b) = subst (λ (z : ℕ). Uses k path x z path₁ y) q (use-after (by-path b))

      go : Compared ◌<◌ k m → Uses k path x m path₁ y
      go (Compared.before l) = use-before (by-clause l)
      go (Compared.same q) =
          let f₁ : get_elem? c k ≡ some d₁ = ap (λ (z : ℕ). get_elem? c z) q ∙ f in
          let same-one : d₁ ≡ d = some-injective d₁ d (sym f₁ ∙ e) in
          onto m q f₁ (paths-compared r (subst (λ (z : AtHand Q). Reaches cs o z.clause z.bindings path₁ y) same-one t))
      go (Compared.after l) = use-after (by-clause l)

  -- two nodes that fit at one place: one takes the earlier option, or they take the same, and then their parts stand at the same places and decide
  pub data Beside (P R : Strip) (places places₁ : List (Place Q)) : Type 0 where
    option-before : OptionBefore (chosen P) (chosen R) → Beside P R places places₁
    option-same : chosen P ≡ chosen R → places ≡ places₁ → (parts P ≡ parts R → P ≡ R) → Beside P R places places₁
    option-after : OptionBefore (chosen R) (chosen P) → Beside P R places places₁

  pub beside : {o : List Q} {c : Hand Q} {bs : Bindings} {g : Goal Q} {P R : Strip} {places places₁ : List (Place Q)} → Fits cs o c bs g P places → Fits cs o c bs g R places₁ → Beside P R places places₁
  beside fits-top fits-top = option-same refl refl (λ e. refl)
  beside fits_and fits_and = option-same refl refl (λ e. cc)
  beside fits-left fits-left = option-same refl refl (λ e. cc)
  beside fits-left fits-right = option-before left-right
  beside fits-right fits-left = option-after left-right
  beside fits-right fits-right = option-same refl refl (λ e. cc)
  beside {o} {c} {bs} (fits-some {g = g} {i = i} {P = P} m) (fits-some {i = j} {P = R} n) = go (numbers-compared i j)
    where
      go : Compared ◌<◌ i j → Beside (Strip.some i P) (Strip.some j R) (place o c (Candidate i ∷ bs) g ∷ []) (place o c (Candidate j ∷ bs) g ∷ [])
      go (Compared.before l) = option-before (by-candidate l)
      go (Compared.same e) = option-same (ap Chosen.candidate e) (ap (λ (z : ℕ). place o c (Candidate z ∷ bs) g ∷ []) e) (λ q. cc)
      go (Compared.after l) = option-after (by-candidate l)
  beside fits_all fits_all = option-same refl refl (λ e. cc)
  beside fits-imp fits-imp = option-same refl refl (λ e. cc)
  beside {c = c} (fits-use₀ {k = k} {path = path} e r s) (fits-use₀ {k = m} {path = path₁} f t u) = go (uses c k m e r f t)
    where
      go : {x y : End Q} → Uses k path x m path₁ y → Beside (Strip.use₀ k path) (Strip.use₀ m path₁) [] []
      go (use-before b) = option-before b
      go (use-same p q w) = option-same (ap₂ Chosen.clause p q) refl (λ z. ap₂ Strip.use₀ p q)
      go (use-after b) = option-after b
  beside {c = c} {places = places} {places₁ = places₁} (fits-use₀ {bs₁ = bs₁} {b = b} {k = k} {path = path} e r s) (fits-use₁ {bs₁ = bs₂} {b = b₂} {g = g} {k = m} {path = path₁} {P = R} f t u) = go (uses c k m e r f t)
    where
      go : Uses k path (End.at_atom b bs₁) m path₁ (End.at_imp g b₂ bs₂) → Beside (Strip.use₀ k path) (Strip.use₁ m path₁ R) places places₁
      go (use-before w) = option-before w
      go (use-same p q w) = absurd (ends-differ w)
      go (use-after w) = option-after w
  beside {c = c} {places = places} {places₁ = places₁} (fits-use₁ {bs₁ = bs₂} {b = b₂} {g = g} {k = m} {path = path₁} {P = R} f t u) (fits-use₀ {bs₁ = bs₁} {b = b} {k = k} {path = path} e r s) = go (uses c m k f t e r)
    where
      go : Uses m path₁ (End.at_imp g b₂ bs₂) k path (End.at_atom b bs₁) → Beside (Strip.use₁ m path₁ R) (Strip.use₀ k path) places places₁
      go (use-before w) = option-before w
      go (use-same p q w) = absurd (ends-differ (sym w))
      go (use-after w) = option-after w
  beside {o} {c} (fits-use₁ {bs₁ = bs₁} {b = b} {g = g} {k = k} {path = path} {P = P} e r s) (fits-use₁ {bs₁ = bs₂} {b = b₂} {g = g₂} {k = m} {path = path₁} {P = R} f t u) = go (uses c k m e r f t)
    where
      go : Uses k path (End.at_imp g b bs₁) m path₁ (End.at_imp g₂ b₂ bs₂) → Beside (Strip.use₁ k path P) (Strip.use₁ m path₁ R) (place o c bs₁ g ∷ []) (place o c bs₂ g₂ ∷ [])
      go (use-before w) = option-before w
      go (use-same p q w) = option-same (ap₂ Chosen.clause p q) (cc) (λ z. cc)
      go (use-after w) = option-after w
