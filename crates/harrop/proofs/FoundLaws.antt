-- What the search finds is the first proof in document 01's sense.
use Prim.Native.Nat.{ℕ, zero, suc, ◌+◌, ◌≤◌, ◌<◌}
use mathlib.Core.Path.{◌≡◌, refl, sym, ◌∙◌, subst}
use mathlib.Core.List.{List, [], ◌∷◌, ◌++◌}
use mathlib.Core.Option.{Option, none, some, some-injective}
use native.Mathlib.Omega.{arith}
use lib.ListN.{length, get_elem?}
use Rattle.basics.specs.Choice.{nope, ◌>>=◌, bind-some}
use Rattle.harrop.specs.declared.Binding.TheVariants.{Candidate, Parameter}
use Rattle.harrop.specs.Formula.{Atom, Goal, Step, Strip, height}
use Rattle.harrop.specs.Bindings.{Bindings, replaced_atom, same_atom}
use Rattle.harrop.specs.Place.{Candidates, AtHand, Hand, End, place}
use Rattle.harrop.specs.Proves.{May, Reaches, Proves, by_left, by_right, by-some, by-use₀, by-use₁}
use Rattle.harrop.specs.Fits.{fits-top, fits_and, fits-left, fits-right, fits-some, fits_all, fits-imp, fits-use₀, fits-use₁}
use Rattle.harrop.specs.Search.{first_path, first}
use Rattle.harrop.specs.Order.{Chosen, chosen, PathBefore, OptionBefore, left-right, by-candidate, by-clause, by-path}
use Rattle.harrop.specs.First.{First, first_one, no-parts, more_parts}
use Rattle.harrop.proofs.SameLaws.{same-atoms-equal}
use Rattle.harrop.proofs.OrderLaws.{option-not-before-itself}
use Rattle.harrop.proofs.SearchLaws.{from_some, tested, dressed-some, dressed-none, candidate-some, path-some, path-none}
use Rattle.harrop.proofs.SilentLaws.{tried, atom-not-silent, body-silent, silent-no-proof}

-- nothing comes before a node that leaves no choice, nor before `left`
none-before-only : {x y : Chosen} → OptionBefore x y → y ≡ Chosen.only → ⊥
none-before-only left-right e = let z : ◌≡◌ {A = ℕ} 0 1 = cc in omega arith
none-before-only (by-candidate l) e = let z : ◌≡◌ {A = ℕ} 0 1 = cc in omega arith
none-before-only (by-clause l) e = let z : ◌≡◌ {A = ℕ} 0 1 = cc in omega arith
none-before-only (by-path b) e = let z : ◌≡◌ {A = ℕ} 0 1 = cc in omega arith

none-before-left : {x y : Chosen} → OptionBefore x y → y ≡ Chosen.left_one → ⊥
none-before-left left-right e = let z : ◌≡◌ {A = ℕ} 0 1 = cc in omega arith
none-before-left (by-candidate l) e = let z : ◌≡◌ {A = ℕ} 0 1 = cc in omega arith
none-before-left (by-clause l) e = let z : ◌≡◌ {A = ℕ} 0 1 = cc in omega arith
none-before-left (by-path b) e = let z : ◌≡◌ {A = ℕ} 0 1 = cc in omega arith

module _ {Q : Type 0} (cs : Candidates Q) where
  -- right is first where nothing comes of the left
  right-first : (h : ℕ) (o : List Q) (c : Hand Q) (bs : Bindings) (g g₁ : Goal Q) → first cs h o c bs g ≡ none → (R : Strip) → Proves cs o c bs (Goal.or g g₁) R → height R ≤ suc h → OptionBefore (chosen R) Chosen.right_one → ⊥
  right-first h o c bs g g₁ e R (by_left {P = X} t) l b = silent-no-proof cs h o c bs g X t (omega arith) e
  right-first h o c bs g g₁ e R (by_right t) l b = option-not-before-itself b refl

  -- a candidate is first where nothing comes of those before it
  number-first : (h : ℕ) (o : List Q) (c : Hand Q) (bs : Bindings) (q : Q) (g : Goal Q) (i : ℕ) → ((j : ℕ) → j < i → May cs o q j → first cs h o c (Candidate j ∷ bs) g ≡ none) → (R : Strip) → Proves cs o c bs (Goal.some q g) R → height R ≤ suc h → OptionBefore (chosen R) (Chosen.candidate i) → ⊥
  number-first h o c bs q g i f R (by-some {i = j} {P = X} m t) l (by-candidate b) = silent-no-proof cs h o c (Candidate j ∷ bs) g X t (omega arith) (f j b m)

  -- nothing comes of the uses before this one
  abbrev Silent : ℕ → List Q → Hand Q → Bindings → Atom → ℕ → List Step → Type 0
  Silent h o c bs a k way = (j : ℕ) (path : List Step) (d : AtHand Q) (x : End Q) → OptionBefore (Chosen.clause j path) (Chosen.clause k way) → get_elem? c j ≡ some d → Reaches cs o d.clause d.bindings path x → tried cs h o c bs a j path x ≡ none

  use-first : (h : ℕ) (o : List Q) (c : Hand Q) (bs : Bindings) (a : Atom) (k : ℕ) (way : List Step) → Silent h o c bs a k way → (R : Strip) → Proves cs o c bs (Goal.atom a) R → height R ≤ suc h → OptionBefore (chosen R) (Chosen.clause k way) → ⊥
  use-first h o c bs a k way f R (by-use₀ {bs₁ = bs₁} {b = b} {h = d} {k = j} {path = path} e r s) l w =
      atom-not-silent cs h o c bs bs₁ a b j path (f j path d (End.at_atom b bs₁) w e r) s
  use-first h o c bs a k way f R (by-use₁ {bs₁ = bs₁} {b = b} {h = d} {g = g} {k = j} {path = path} {P = X} e r s t) l w =
      silent-no-proof cs h o c bs₁ g X t (omega arith) (body-silent cs h o c bs bs₁ a b g j path (f j path d (End.at_imp g b bs₁) w e r) s)

  silent-before : (h : ℕ) (o : List Q) (c : Hand Q) (bs : Bindings) (a : Atom) (k : ℕ) (d : AtHand Q) (way : List Step) → get_elem? c k ≡ some d → ((j : ℕ) → j < k → ◌≡◌ {A = Option Strip} (get_elem? c j >>= λ d. first_path cs o d.clause d.bindings (tried cs h o c bs a j)) none) → ((path : List Step) (x : End Q) → PathBefore path way → Reaches cs o d.clause d.bindings path x → tried cs h o c bs a k path x ≡ none) → Silent h o c bs a k way
  silent-before h o c bs a k d way e f g j path d₁ x (by-clause l) e₁ r = path-none cs (tried cs h o c bs a j) r (rw e₁ at (f j l))
  silent-before h o c bs a k d way e f g j path d₁ x (by-path b) e₁ r =
      g path x b (subst (λ (y : AtHand Q). Reaches cs o y.clause y.bindings path x) (some-injective d₁ d (sym e₁ ∙ e)) r)

  at-the-end : (h : ℕ) (o : List Q) (c : Hand Q) (bs : Bindings) (a : Atom) (k : ℕ) (d : AtHand Q) (way : List Step) (x : End Q) (P : Strip) → ((bs₁ : Bindings) (g : Goal Q) (R : Strip) → first cs h o c bs₁ g ≡ some R → First cs h (place o c bs₁ g) R) → get_elem? c k ≡ some d → Reaches cs o d.clause d.bindings way x → tried cs h o c bs a k way x ≡ some P → Silent h o c bs a k way → First cs (suc h) (place o c bs (Goal.atom a)) P
  at-the-end h o c bs a k d way (End.at_atom b bs₁) P ih e r t f =
      let (s, u) = tested (same_atom (replaced_atom cs.terms bs₁ b) (replaced_atom cs.terms bs a)) (some (Strip.use₀ k way)) P t in
      subst (λ (X : Strip). First cs (suc h) (place o c bs (Goal.atom a)) X) (some-injective (Strip.use₀ k way) P u)
      (first_one (fits-use₀ e r (same-atoms-equal _ _ s)) (λ R z l w. use-first h o c bs a k way f R z l w) no-parts)
  at-the-end h o c bs a k d way (End.at_imp g b bs₁) P ih e r t f =
      let (s, u) = tested (same_atom (replaced_atom cs.terms bs₁ b) (replaced_atom cs.terms bs a)) (first cs h o c bs₁ g >>= λ P. some (Strip.use₁ k way P)) P t in
      let (X, v, w) = dressed-some (λ (X : Strip). Strip.use₁ k way X) (first cs h o c bs₁ g) P u in
      subst (λ (X : Strip). First cs (suc h) (place o c bs (Goal.atom a)) X) w
      (first_one (fits-use₁ e r (same-atoms-equal _ _ s)) (λ R z l w. use-first h o c bs a k way f R z l w) (more_parts (ih bs₁ g X v) no-parts))

  pub found-is-first : (h : ℕ) (o : List Q) (c : Hand Q) (bs : Bindings) (g : Goal Q) (P : Strip) → first cs h o c bs g ≡ some P → First cs h (place o c bs g) P
  found-is-first zero o c bs g P e = nope e
  found-is-first (suc h) o c bs Goal.top P e =
      subst (λ (X : Strip). First cs (suc h) (place o c bs Goal.top) X) (some-injective Strip.top P e)
      (first_one fits-top (λ R t l b. none-before-only b refl) no-parts)
  found-is-first (suc h) o c bs (Goal.atom a) P e =
      let at : ℕ → Option Strip = λ k. get_elem? c k >>= λ d. first_path cs o d.clause d.bindings (tried cs h o c bs a k) in
      let t = from_some at 0 (length c) P e in
      let k = t.number in
      let (d, s, r) = bind-some (get_elem? c k) (λ (d : AtHand Q). first_path cs o d.clause d.bindings (tried cs h o c bs a k)) P t.answers in
      let u = path-some cs o d.clause d.bindings (tried cs h o c bs a k) P r in
      at-the-end h o c bs a k d u.way u.end P (λ bs₁ g R z. found-is-first h o c bs₁ g R z) s u.reaches u.answers
      (silent-before h o c bs a k d u.way s (λ j l. t.silent j (omega arith) l) u.silent)
  found-is-first (suc h) o c bs (Goal.and g g₁) P e =
      let (X, r, s) = bind-some (first cs h o c bs g) (λ (X : Strip). first cs h o c bs g₁ >>= λ Y. some (Strip.and X Y)) P e in
      let (Y, t, u) = dressed-some (λ (Y : Strip). Strip.and X Y) (first cs h o c bs g₁) P s in
      subst (λ (Z : Strip). First cs (suc h) (place o c bs (Goal.and g g₁)) Z) u
      (first_one fits_and (λ R t l b. none-before-only b refl) (more_parts (found-is-first h o c bs g X r) (more_parts (found-is-first h o c bs g₁ Y t) no-parts)))
  found-is-first (suc h) o c bs (Goal.or g g₁) P e = go (first cs h o c bs g) refl e (λ X z. found-is-first h o c bs g X z) (λ X z. found-is-first h o c bs g₁ X z)
    where
      go : (y : Option Strip) → first cs h o c bs g ≡ y → elim y as (λ x. Option Strip) [ none ↦ (first cs h o c bs g₁ >>= λ R. some (Strip.right R)) | some P ↦ some (Strip.left P) ] ≡ some P → ((X : Strip) → first cs h o c bs g ≡ some X → First cs h (place o c bs g) X) → ((X : Strip) → first cs h o c bs g₁ ≡ some X → First cs h (place o c bs g₁) X) → First cs (suc h) (place o c bs (Goal.or g g₁)) P
      go none n e l r =
          let (Y, t, u) = dressed-some Strip.right (first cs h o c bs g₁) P e in
          subst (λ (Z : Strip). First cs (suc h) (place o c bs (Goal.or g g₁)) Z) u
          (first_one fits-right (λ R t l b. right-first h o c bs g g₁ n R t l b) (more_parts (r Y t) no-parts))
      go (some X) n e l r =
          subst (λ (Z : Strip). First cs (suc h) (place o c bs (Goal.or g g₁)) Z) (some-injective (Strip.left X) P e)
          (first_one fits-left (λ R t l b. none-before-left b refl) (more_parts (l X n) no-parts))
  found-is-first (suc h) o c bs (Goal.some q g) P e =
      let t = candidate-some cs o q (λ i. first cs h o c (Candidate i ∷ bs) g >>= λ X. some (Strip.some i X)) P e in
      let i = t.number in
      let (X, r, u) = dressed-some (λ (X : Strip). Strip.some i X) (first cs h o c (Candidate i ∷ bs) g) P t.answers in
      subst (λ (Z : Strip). First cs (suc h) (place o c bs (Goal.some q g)) Z) u
      (first_one (fits-some t.may)
      (λ R z l b. number-first h o c bs q g i (λ j l m. dressed-none (λ (X : Strip). Strip.some j X) (first cs h o c (Candidate j ∷ bs) g) (t.silent j l m)) R z l b)
      (more_parts (found-is-first h o c (Candidate i ∷ bs) g X r) no-parts))
  found-is-first (suc h) o c bs (Goal.all q g) P e =
      let (X, t, u) = dressed-some Strip.all (first cs h (q ∷ o) c (Parameter (suc (length o)) ∷ bs) g) P e in
      subst (λ (Z : Strip). First cs (suc h) (place o c bs (Goal.all q g)) Z) u
      (first_one fits_all (λ R t l b. none-before-only b refl) (more_parts (found-is-first h (q ∷ o) c (Parameter (suc (length o)) ∷ bs) g X t) no-parts))
  found-is-first (suc h) o c bs (Goal.imp d g) P e =
      let (X, t, u) = dressed-some Strip.imp (first cs h o (c ++ (record { clause = d; bindings = bs } ∷ [])) bs g) P e in
      subst (λ (Z : Strip). First cs (suc h) (place o c bs (Goal.imp d g)) Z) u
      (first_one fits-imp (λ R t l b. none-before-only b refl) (more_parts (found-is-first h o (c ++ (record { clause = d; bindings = bs } ∷ [])) bs g X t) no-parts))
