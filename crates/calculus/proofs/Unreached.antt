-- Sequents that have no derivation without cut, for each condition on the quantifier rules of Figure 1 one that would have a derivation if that condition alone were left out:
-- Σ ⊢ t : τ of ∀ L in `no-body-from-all`, of ∃ R in `no-some-from-nothing`; y ∉ Σ of ∀ R in `no-all-from-one`, of ∃ L in `no-one-from-some`. With cut nothing is said here.
use Prim.Native.Nat.{ℕ}
use mathlib.Core.Path.{◌≡◌, refl, sym, ◌∙◌, ap, subst}
use mathlib.Core.List.Memᴰ
use mathlib.Core.List.Permᴰ
use mathlib.Core.List.{List, [], ◌∷◌}
use Rattle.basics.specs.Choice.{nope}
use Rattle.basics.specs.Each.{Each}
use Rattle.harrop.specs.Formula.{Name, Term, Terms, Atom}
use Rattle.calculus.specs.Formula.{Formula}
use Rattle.calculus.specs.Substitution.{put}
use Rattle.calculus.specs.Multiset.{◌≈◌}
use Rattle.calculus.specs.Signature.{Signature, Declares, Fresh, Has}
use Rattle.calculus.specs.Derivation.{Derivation}
use Rattle.calculus.specs.Uniform.{CutFree}
use Rattle.calculus.proofs.OrderLaws.{all-reordered}
use Rattle.calculus.proofs.Underivable.{of}

-- p(t)
abbrev pub at : {S : Type 0} → Name → Term → Formula S
at p t = Formula.atom (Atom.atom p (Terms.cons t Terms.nil))

module _ {S : Type 0} where
  -- the left side above a contraction
  doubled : (P : Formula S → Type 0) {Θ Γ Λ : List (Formula S)} {B : Formula S} → Θ ≈ (B ∷ Γ) → Λ ≈ (B ∷ B ∷ Γ) → Each P Θ → Each P Λ
  doubled P m n h = let k = all-reordered P m h in all-reordered P (Permᴰ.symm n) (k.0, k)

  IsAll : Formula S → Type 0
  IsAll (Formula.atom a) = ⊥
  IsAll Formula.top = ⊥
  IsAll Formula.bottom = ⊥
  IsAll (Formula.and B C) = ⊥
  IsAll (Formula.or B C) = ⊥
  IsAll (Formula.implies B C) = ⊥
  IsAll (Formula.all s B) = Unit {0}
  IsAll (Formula.some s B) = ⊥

  SomeOrAtom : Formula S → Type 0
  SomeOrAtom (Formula.atom a) = Unit {0}
  SomeOrAtom Formula.top = ⊥
  SomeOrAtom Formula.bottom = ⊥
  SomeOrAtom (Formula.and B C) = ⊥
  SomeOrAtom (Formula.or B C) = ⊥
  SomeOrAtom (Formula.implies B C) = ⊥
  SomeOrAtom (Formula.all s B) = ⊥
  SomeOrAtom (Formula.some s B) = Unit {0}

  not-both : (B : Formula S) → IsAll B → SomeOrAtom B → ⊥
  unfolding IsAll SomeOrAtom
  not-both (Formula.atom a) l r = l
  not-both Formula.top l r = l
  not-both Formula.bottom l r = l
  not-both (Formula.and B C) l r = l
  not-both (Formula.or B C) l r = l
  not-both (Formula.implies B C) l r = l
  not-both (Formula.all s B) l r = r
  not-both (Formula.some s B) l r = l

  -- the signature has no term of any sort
  abbrev pub Barren : Signature S → Type 0
  Barren Σ = (t : Term) (s : S) → ¬ (Has Σ t s)

  none-from-alls : {Σ : Signature S} {Γ : List (Formula S)} {C : Formula S} (d : Derivation Σ Γ C) → CutFree d → Barren Σ → Each IsAll Γ → SomeOrAtom C → ⊥
  unfolding IsAll SomeOrAtom
  none-from-alls (Derivation.id {B = B} q m) c b l r = not-both B (all-reordered IsAll m l).0 r
  none-from-alls (Derivation.cut q m n D E) c b l r = c.0
  none-from-alls (Derivation.contr-L q m n D) c b l r = none-from-alls D c.1 b (doubled IsAll m n l) r
  none-from-alls (Derivation.weak-L q m D) c b l r = none-from-alls D c.1 b (all-reordered IsAll m l).1 r
  none-from-alls (Derivation.bottom-L q m) c b l r = (all-reordered IsAll m l).0
  none-from-alls (Derivation.top-R q) c b l r = r
  none-from-alls (Derivation.and-L₁ q m n D) c b l r = (all-reordered IsAll m l).0
  none-from-alls (Derivation.and-L₂ q m n D) c b l r = (all-reordered IsAll m l).0
  none-from-alls (Derivation.and-R q D E) c b l r = r
  none-from-alls (Derivation.or-L q m n k D E) c b l r = (all-reordered IsAll m l).0
  none-from-alls (Derivation.or-R₁ q D) c b l r = r
  none-from-alls (Derivation.or-R₂ q D) c b l r = r
  none-from-alls (Derivation.implies-L q m n D E) c b l r = (all-reordered IsAll m l).0
  none-from-alls (Derivation.implies-R q m D) c b l r = r
  none-from-alls (Derivation.all-L {τ = s} t q m h n D) c b l r = b t s h
  none-from-alls (Derivation.all-R y q h e D) c b l r = r
  none-from-alls (Derivation.some-L y q m h n D) c b l r = (all-reordered IsAll m l).0
  none-from-alls (Derivation.some-R {τ = s} t q h e D) c b l r = b t s h

  -- ∀x p(x) → ∃x p(x) over a signature without terms
  pub no-some-from-all : {Σ : Signature S} (p : Name) (s : S) → Barren Σ → (d : Derivation Σ (Formula.all s (at p (Term.v 0)) ∷ []) (Formula.some s (at p (Term.v 0)))) → ¬ (CutFree d)
  unfolding IsAll SomeOrAtom
  no-some-from-all p s b d c = none-from-alls d c b (tt, tt) tt

  -- the variable need not stand in the body: ∃x ⊤, and ∀x q → q, over a signature without terms
  pub no-some-from-nothing : {Σ : Signature S} (s : S) → Barren Σ → (d : Derivation Σ [] (Formula.some s Formula.top)) → ¬ (CutFree d)
  unfolding IsAll SomeOrAtom
  no-some-from-nothing s b d c = none-from-alls d c b tt tt

  pub no-body-from-all : {Σ : Signature S} (q : Name) (s : S) → Barren Σ → (d : Derivation Σ (Formula.all s (of q Terms.nil) ∷ []) (of q Terms.nil)) → ¬ (CutFree d)
  unfolding IsAll SomeOrAtom
  no-body-from-all q s b d c = none-from-alls d c b (tt, tt) tt

  -- a signature without functions and without parameters has no term
  pub barren : (predicate : Name → List S → Type 0) → Barren (record { symbols = record { function = λ g ss s. ⊥; predicate = predicate }; parameters = [] })
  barren predicate (Term.v i) s e = nope e
  barren predicate (Term.f g ts) s e = e.1
  barren predicate (Term.e k) s e = Memᴰ.not-nil e

-- the parameter that an atom's first argument is
number : Term → ℕ
number (Term.v i) = 0
number (Term.f g ts) = 0
number (Term.e k) = k

first_number : Terms → ℕ
first_number Terms.nil = 0
first_number (Terms.cons t ts) = number t

atom_number : Atom → ℕ
atom_number (Atom.atom p ts) = first_number ts

-- parameter n is in the signature, and of no parameter hold both L and R; where there-is is given, L holds of every other parameter, and where for-all is asked, R does
record Apart (n : ℕ) (L R : ℕ → Type 0) (E F : Type 0) : Type 0 where
  not-both : (k : ℕ) → L k → R k → ⊥
  others-given : E → (y : ℕ) → ¬ (y ≡ n) → L y
  others-asked : F → (y : ℕ) → ¬ (y ≡ n) → R y

module _ {S : Type 0} (p : Name) (n : ℕ) (L R : ℕ → Type 0) (E F : Type 0) (apart : Apart n L R E F) where
  -- on the left p(k) with L k, and ∃x p(x) if E; on the right p(k) with R k, or ∀x p(x) if F
  Given : Formula S → Type 0
  Given (Formula.atom a) = (k : ℕ) × L k × (a ≡ Atom.atom p (Terms.cons (Term.e k) Terms.nil))
  Given Formula.top = ⊥
  Given Formula.bottom = ⊥
  Given (Formula.and B C) = ⊥
  Given (Formula.or B C) = ⊥
  Given (Formula.implies B C) = ⊥
  Given (Formula.all s B) = ⊥
  Given (Formula.some s B) = E × (B ≡ at p (Term.v 0))

  Asked : Formula S → Type 0
  Asked (Formula.atom a) = (k : ℕ) × R k × (a ≡ Atom.atom p (Terms.cons (Term.e k) Terms.nil))
  Asked Formula.top = ⊥
  Asked Formula.bottom = ⊥
  Asked (Formula.and B C) = ⊥
  Asked (Formula.or B C) = ⊥
  Asked (Formula.implies B C) = ⊥
  Asked (Formula.all s B) = F × (B ≡ at p (Term.v 0))
  Asked (Formula.some s B) = ⊥

  given-not-asked : (B : Formula S) → Given B → Asked B → ⊥
  unfolding Given Asked atom_number first_number number
  given-not-asked (Formula.atom a) (k, l, e) (j, r, g) = apart.not-both k l (subst R (ap atom_number (sym g ∙ e)) r)
  given-not-asked Formula.top l r = l
  given-not-asked Formula.bottom l r = l
  given-not-asked (Formula.and B C) l r = l
  given-not-asked (Formula.or B C) l r = l
  given-not-asked (Formula.implies B C) l r = l
  given-not-asked (Formula.all s B) l r = l
  given-not-asked (Formula.some s B) l r = r

  -- a fresh parameter is another
  fresh-other : (Σ : Signature S) {s : S} (y : ℕ) → Declares Σ n s → Fresh Σ y → ¬ (y ≡ n)
  fresh-other Σ {s} y k f z = f s (subst (λ (x : ℕ). Declares Σ x s) (sym z) k)

  given-instance : (y : ℕ) {B : Formula S} → ¬ (y ≡ n) → E × (B ≡ at p (Term.v 0)) → Given (put (Term.e y) B)
  unfolding Given
  given-instance y d (x, b) = subst Given (sym (ap (put (Term.e y)) b)) (y, apart.others-given x y d, refl)

  asked-instance : (y : ℕ) {B D : Formula S} → ¬ (y ≡ n) → D ≡ put (Term.e y) B → F × (B ≡ at p (Term.v 0)) → Asked D
  unfolding Asked
  asked-instance y d e (x, b) = subst Asked (sym (e ∙ ap (put (Term.e y)) b)) (y, apart.others-asked x y d, refl)

  none_between : {Σ : Signature S} {Γ : List (Formula S)} {C : Formula S} {s : S} (d : Derivation Σ Γ C) → CutFree d → Declares Σ n s → Each Given Γ → Asked C → ⊥
  unfolding Given Asked
  none_between (Derivation.id {B = B} q m) c k l r = given-not-asked B (all-reordered Given m l).0 r
  none_between (Derivation.cut q m u D G) c k l r = c.0
  none_between (Derivation.contr-L q m u D) c k l r = none_between D c.1 k (doubled Given m u l) r
  none_between (Derivation.weak-L q m D) c k l r = none_between D c.1 k (all-reordered Given m l).1 r
  none_between (Derivation.bottom-L q m) c k l r = (all-reordered Given m l).0
  none_between (Derivation.top-R q) c k l r = r
  none_between (Derivation.and-L₁ q m u D) c k l r = (all-reordered Given m l).0
  none_between (Derivation.and-L₂ q m u D) c k l r = (all-reordered Given m l).0
  none_between (Derivation.and-R q D G) c k l r = r
  none_between (Derivation.or-L q m u v D G) c k l r = (all-reordered Given m l).0
  none_between (Derivation.or-R₁ q D) c k l r = r
  none_between (Derivation.or-R₂ q D) c k l r = r
  none_between (Derivation.implies-L q m u D G) c k l r = (all-reordered Given m l).0
  none_between (Derivation.implies-R q m D) c k l r = r
  none_between (Derivation.all-L t q m h u D) c k l r = (all-reordered Given m l).0
  none_between (Derivation.all-R {Σ = Σ} y q h e D) c k l r = none_between D c.1 (Memᴰ.tail k) l (asked-instance y (fresh-other Σ y k h) e r)
  none_between (Derivation.some-L {Σ = Σ} y q m h u D) c k l r =
      let w = all-reordered Given m l in
      none_between D c.1 (Memᴰ.tail k) (all-reordered Given (Permᴰ.symm u) (given-instance y (fresh-other Σ y k h) w.0, w.1)) r
  none_between (Derivation.some-R t q h e D) c k l r = r

-- p(e 1) → ∀x p(x) over a signature with parameter 1
pub no-all-from-one : {S : Type 0} {Σ : Signature S} (p : Name) (s : S) → Declares Σ 1 s → (d : Derivation Σ (at p (Term.e 1) ∷ []) (Formula.all s (at p (Term.v 0)))) → ¬ (CutFree d)
unfolding Given Asked
no-all-from-one p s k d c =
    none_between p 1 (λ y. y ≡ 1) (λ y. ¬ (y ≡ 1)) ⊥ (Unit {0})
    (record { not-both = λ y l r. r l; others-given = λ x y h. absurd x; others-asked = λ x y h. h }) d c k ((1, refl, refl), tt) (tt, refl)

-- ∃x p(x) → p(e 1) over a signature with parameter 1
pub no-one-from-some : {S : Type 0} {Σ : Signature S} (p : Name) (s : S) → Declares Σ 1 s → (d : Derivation Σ (Formula.some s (at p (Term.v 0)) ∷ []) (at p (Term.e 1))) → ¬ (CutFree d)
unfolding Given Asked
no-one-from-some p s k d c =
    none_between p 1 (λ y. ¬ (y ≡ 1)) (λ y. y ≡ 1) (Unit {0}) ⊥
    (record { not-both = λ y l r. l r; others-given = λ x y h. h; others-asked = λ x y h. absurd x }) d c k ((tt, refl), tt) (1, refl, refl)
