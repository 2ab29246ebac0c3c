-- What the executable twin answers (Check): height and nodes of the strip exactly if it is a proof, else the first node in file order that does not fit.
use Prim.Native.Nat.{ℕ, zero, suc, ◌+◌, max, ◌<◌}
use mathlib.Core.Path.{◌≡◌, refl, sym, ◌∙◌, ap, ap₂, subst}
use mathlib.Core.Bool.{Bool, true, false, false≢true}
use mathlib.Core.List.{List, [], ◌∷◌, ◌++◌}
use mathlib.Core.Option.{Option, none, some, some-injective}
use native.Mathlib.Omega.{arith}
use lib.ListN.{length, get_elem?}
use Rattle.basics.specs.Choice.{nope, maybe, ◌>>=◌, bind-some, provided, provided-some}
use Rattle.harrop.specs.declared.Binding.TheVariants.{Candidate, Parameter}
use Rattle.harrop.specs.Formula.{Atom, Goal, Step, Strip, height, nodes}
use Rattle.harrop.specs.Bindings.{Bindings, replaced_atom, same_atom}
use Rattle.harrop.specs.Place.{Candidates, AtHand, Hand, Place, End, allowed, follow, place}
use Rattle.harrop.specs.Proves.{Reaches, Proves, ProvesAt, by-top, by-use₀}
use Rattle.harrop.specs.Views.{as_top, as_atom, as_and, as_or, as_some, as_all, as_imp}
use Rattle.harrop.specs.Position.{parts}
use Rattle.harrop.specs.Fits.{Fits, FitsAt, FirstMisfit, EveryNodeFits, fits-top, fits_and, fits-left, fits-right, fits-some, fits_all, fits-imp, fits-use₀, fits-use₁}
use Rattle.harrop.specs.Check.{Judged, above, above_both, here, head_of, body_of, used, check}
use Rattle.harrop.proofs.SameLaws.{same-atoms-equal, equal-atoms-same}
use Rattle.harrop.proofs.ViewLaws.{is-top, is-atom, is-and, is-or, is-some, is_all, is-imp}
use Rattle.harrop.proofs.PlaceLaws.{allowed-may, may-allowed, follow-reaches, reaches-follow}
use Rattle.harrop.proofs.FitsLaws.{EachProves, none_left, and-more, proof-joined, proof-every-node-fits, misfit-here, misfit-in-part}

module _ {Q : Type 0} (cs : Candidates Q) where
  -- what each answer says of a strip at a place
  abbrev pub Says : Place Q → Strip → Judged → Type 0
  Says pl P (Judged.fits h m) = ProvesAt cs pl P × (h ≡ height P) × (m ≡ nodes P)
  Says pl P (Judged.misfit at) = FirstMisfit cs pl P at

  -- a node with one part
  says-above : (pl pl₁ : Place Q) (P R : Strip) (j : Judged) → FitsAt cs pl P (pl₁ ∷ []) → parts P ≡ R ∷ [] → height P ≡ suc (height R) → nodes P ≡ suc (nodes R) → Says pl₁ R j → Says pl P (above 0 j)
  says-above pl pl₁ P R (Judged.fits h m) f e i k (t, p, q) =
      (proof-joined cs f (subst (λ (ps : List Strip). EachProves cs (pl₁ ∷ []) ps) (sym e) (and-more t none_left)), ap suc p ∙ sym i, ap suc q ∙ sym k)
  says-above pl pl₁ P R (Judged.misfit at) f e i k w = misfit-in-part cs 0 at f refl (rw e) w (λ j S l x. absurd (omega arith))

  -- an `and`
  says-above_both : (o : List Q) (c : Hand Q) (bs : Bindings) (g h : Goal Q) (P R : Strip) (j k : Judged) → Says (place o c bs g) P j → Says (place o c bs h) R k → Says (place o c bs (Goal.and g h)) (Strip.and P R) (above_both j k)
  says-above_both o c bs g h P R (Judged.misfit at) k w x = misfit-in-part cs 0 at fits_and refl refl w (λ j S l x. absurd (omega arith))
  says-above_both o c bs g h P R (Judged.fits h₁ m₁) (Judged.misfit at) (t, p, q) x = misfit-in-part cs 1 at fits_and refl refl x (λ j S l e. before j S l e)
    where
      before : (j : ℕ) (S : Strip) → j < 1 → get_elem? (P ∷ R ∷ []) j ≡ some S → (pl : Place Q) × (get_elem? (place o c bs g ∷ place o c bs h ∷ []) j ≡ some pl) × EveryNodeFits cs pl S
      before zero S l e = (place o c bs g, refl, subst (λ (X : Strip). EveryNodeFits cs (place o c bs g) X) (some-injective P S e) (proof-every-node-fits cs (place o c bs g) P t))
      before (suc j) S l e = absurd (omega arith)
  says-above_both o c bs g h P R (Judged.fits h₁ m) (Judged.fits i n) (t, p, q) (u, r, s) =
      (proof-joined cs fits_and (and-more t (and-more u none_left)), ap suc (ap₂ max p r), ap suc (ap₂ ◌+◌ q s))

  -- by whether the goal has the node's word
  says-view : {A : Type 0} {pl : Place Q} (P : Strip) (x : Option A) (f : A → Judged) → (x ≡ none → (places : List (Place Q)) → FitsAt cs pl P places → ⊥) → ((a : A) → x ≡ some a → Says pl P (f a)) → Says pl P (maybe x here f)
  says-view {pl = pl} P none f n y = misfit-here cs pl P (λ z. n refl z.0 z.1)
  says-view P (some a) f n y = y a refl

  -- a node whose goal has another word does not fit
  abbrev OtherWord : Strip → Goal Q → Type 0
  OtherWord Strip.top g = as_top g ≡ none
  OtherWord (Strip.and P R) g = as_and g ≡ none
  OtherWord (Strip.left P) g = as_or g ≡ none
  OtherWord (Strip.right P) g = as_or g ≡ none
  OtherWord (Strip.some i P) g = as_some g ≡ none
  OtherWord (Strip.all P) g = as_all g ≡ none
  OtherWord (Strip.imp P) g = as_imp g ≡ none
  OtherWord (Strip.use₀ k path) g = as_atom g ≡ none
  OtherWord (Strip.use₁ k path P) g = as_atom g ≡ none

  other_word : {o : List Q} {c : Hand Q} {bs : Bindings} {g : Goal Q} {P : Strip} {places : List (Place Q)} → Fits cs o c bs g P places → OtherWord P g → ⊥
  other_word fits-top e = nope (sym e)
  other_word fits_and e = nope (sym e)
  other_word fits-left e = nope (sym e)
  other_word fits-right e = nope (sym e)
  other_word (fits-some m) e = nope (sym e)
  other_word fits_all e = nope (sym e)
  other_word fits-imp e = nope (sym e)
  other_word (fits-use₀ h r s) e = nope (sym e)
  other_word (fits-use₁ h r s) e = nope (sym e)

  -- a `some` whose candidate is not allowed does not fit
  not-allowed : {o : List Q} {c : Hand Q} {bs : Bindings} {q : Q} {g : Goal Q} {i : ℕ} {P : Strip} {places : List (Place Q)} → Fits cs o c bs (Goal.some q g) (Strip.some i P) places → allowed cs o q i ≡ false → ⊥
  not-allowed {o = o} {q = q} {i = i} (fits-some m) e = false≢true (sym e ∙ may-allowed cs o q i m)

  -- what a `use` that ends somewhere says
  pub record Used (o : List Q) (c : Hand Q) (bs : Bindings) (g : Goal Q) (k : ℕ) (path : List Step) (x : End Q) : Type 0 where
    pub goal : Atom
    pub at-hand : AtHand Q
    pub is : g ≡ Goal.atom goal
    pub has : get_elem? c k ≡ some at-hand
    pub reaches : Reaches cs o at-hand.clause at-hand.bindings path x
    pub same : replaced_atom cs.terms (head_of x).1 (head_of x).0 ≡ replaced_atom cs.terms bs goal

  pub used-says : (o : List Q) (c : Hand Q) (bs : Bindings) (g : Goal Q) (k : ℕ) (path : List Step) (x : End Q) → used cs o c bs g k path ≡ some x → Used o c bs g k path x
  used-says o c bs g k path x e =
      let step₃ : Atom → End Q → Option (End Q) = λ a y. provided (same_atom (replaced_atom cs.terms (head_of y).1 (head_of y).0) (replaced_atom cs.terms bs a)) (some y) in
      let step₂ : Atom → AtHand Q → Option (End Q) = λ a d. follow cs o d.clause d.bindings path >>= step₃ a in
      let step₁ : Atom → Option (End Q) = λ a. get_elem? c k >>= step₂ a in
      let (a, h₁, r₁) = bind-some (as_atom g) step₁ x e in
      let (d, h₂, r₂) = bind-some (get_elem? c k) (step₂ a) x r₁ in
      let (y, h₃, r₃) = bind-some (follow cs o d.clause d.bindings path) (step₃ a) x r₂ in
      let (h₄, r₄) = provided-some (same_atom (replaced_atom cs.terms (head_of y).1 (head_of y).0) (replaced_atom cs.terms bs a)) (some y) x r₃ in
      made a d y (is-atom g a h₁) h₂ h₃ (same-atoms-equal (replaced_atom cs.terms (head_of y).1 (head_of y).0) (replaced_atom cs.terms bs a) h₄) (some-injective y x r₄)
    where
      made : (a : Atom) (d : AtHand Q) (y : End Q) → g ≡ Goal.atom a → get_elem? c k ≡ some d → follow cs o d.clause d.bindings path ≡ some y → replaced_atom cs.terms (head_of y).1 (head_of y).0 ≡ replaced_atom cs.terms bs a → y ≡ x → Used o c bs g k path x
      made a d y h₁ h₂ h₃ h₄ q =
          record {
            goal = a;
            at-hand = d;
            is = h₁;
            has = h₂;
            reaches = follow-reaches cs o d.clause d.bindings path x (h₃ ∙ ap some q);
            same = subst (λ (z : End Q). replaced_atom cs.terms (head_of z).1 (head_of z).0 ≡ replaced_atom cs.terms bs a) q h₄;
          }

  -- and a `use` that fits ends somewhere
  pub says-used : (o : List Q) (c : Hand Q) (bs : Bindings) (a : Atom) (h : AtHand Q) (k : ℕ) (path : List Step) (x : End Q) → get_elem? c k ≡ some h → Reaches cs o h.clause h.bindings path x → replaced_atom cs.terms (head_of x).1 (head_of x).0 ≡ replaced_atom cs.terms bs a → used cs o c bs (Goal.atom a) k path ≡ some x
  says-used o c bs a h k path x e r s =
      rw (e, used) (rw (reaches-follow cs o h.clause h.bindings path x r) (rw (equal-atoms-same _ _ s) refl))

  no-use₀ : {o : List Q} {c : Hand Q} {bs : Bindings} {g : Goal Q} {k : ℕ} {path : List Step} {places : List (Place Q)} → Fits cs o c bs g (Strip.use₀ k path) places → ((x : End Q) → used cs o c bs g k path ≡ some x → body_of x ≡ none → ⊥) → ⊥
  no-use₀ {o} {c} {bs} {k = k} {path = path} (fits-use₀ {bs₁ = bs₁} {a = a} {b = b} {h = h} e r s) n = n (End.at_atom b bs₁) (says-used o c bs a h k path (End.at_atom b bs₁) e r s) refl

  no-use₁ : {o : List Q} {c : Hand Q} {bs : Bindings} {g : Goal Q} {k : ℕ} {path : List Step} {P : Strip} {places : List (Place Q)} → Fits cs o c bs g (Strip.use₁ k path P) places → ((x : End Q) (y : Goal Q × Bindings) → used cs o c bs g k path ≡ some x → body_of x ≡ some y → ⊥) → ⊥
  no-use₁ {o} {c} {bs} {k = k} {path = path} (fits-use₁ {bs₁ = bs₁} {a = a} {b = b} {h = h} {g = g₁} e r s) n = n (End.at_imp g₁ b bs₁) (g₁, bs₁) (says-used o c bs a h k path (End.at_imp g₁ b bs₁) e r s) refl

  -- by what a `use` reaches
  says-use₀ : (o : List Q) (c : Hand Q) (bs : Bindings) (g : Goal Q) (k : ℕ) (path : List Step) (x : End Q) → used cs o c bs g k path ≡ some x → Says (place o c bs g) (Strip.use₀ k path) (maybe (body_of x) (Judged.fits 1 1) λ y. here)
  says-use₀ o c bs g k path (End.at_atom b bs₁) e =
      let u = used-says o c bs g k path (End.at_atom b bs₁) e in
      (subst (λ (y : Goal Q). Proves cs o c bs y (Strip.use₀ k path)) (sym u.is) (by-use₀ u.has u.reaches u.same), refl, refl)
  says-use₀ o c bs g k path (End.at_imp g₁ b bs₁) e =
      misfit-here cs (place o c bs g) (Strip.use₀ k path) (λ z. no-use₀ z.1 (λ x q n. nope (sym n ∙ ap body_of (some-injective x (End.at_imp g₁ b bs₁) (sym q ∙ e)))))

  says-use₁ : (o : List Q) (c : Hand Q) (bs : Bindings) (g : Goal Q) (k : ℕ) (path : List Step) (P : Strip) (x : End Q) → used cs o c bs g k path ≡ some x → ((bs₁ : Bindings) (g₁ : Goal Q) → Says (place o c bs₁ g₁) P (check cs P o c bs₁ g₁)) → Says (place o c bs g) (Strip.use₁ k path P) (maybe (body_of x) here λ y. above 0 (check cs P o c y.1 y.0))
  says-use₁ o c bs g k path P (End.at_atom b bs₁) e ih =
      misfit-here cs (place o c bs g) (Strip.use₁ k path P) (λ z. no-use₁ z.1 (λ x y q n. nope (ap body_of (some-injective (End.at_atom b bs₁) x (sym e ∙ q)) ∙ n)))
  says-use₁ o c bs g k path P (End.at_imp g₁ b bs₁) e ih =
      let u = used-says o c bs g k path (End.at_imp g₁ b bs₁) e in
      subst (λ (y : Goal Q). Says (place o c bs y) (Strip.use₁ k path P) (above 0 (check cs P o c bs₁ g₁))) (sym u.is)
      (says-above (place o c bs (Goal.atom u.goal)) (place o c bs₁ g₁) (Strip.use₁ k path P) P (check cs P o c bs₁ g₁) (fits-use₁ u.has u.reaches u.same) refl refl refl (ih bs₁ g₁))

  says_some : (o : List Q) (c : Hand Q) (bs : Bindings) (q : Q) (g : Goal Q) (i : ℕ) (P : Strip) (b : Bool) → allowed cs o q i ≡ b → Says (place o c (Candidate i ∷ bs) g) P (check cs P o c (Candidate i ∷ bs) g) → Says (place o c bs (Goal.some q g)) (Strip.some i P) (elim b as (λ x. Judged) [ true ↦ above 0 (check cs P o c (Candidate i ∷ bs) g) | false ↦ here ])
  says_some o c bs q g i P true e ih = says-above (place o c bs (Goal.some q g)) (place o c (Candidate i ∷ bs) g) (Strip.some i P) P (check cs P o c (Candidate i ∷ bs) g) (fits-some (allowed-may cs o q i e)) refl refl refl ih
  says_some o c bs q g i P false e ih = misfit-here cs (place o c bs (Goal.some q g)) (Strip.some i P) (λ z. not-allowed z.1 e)

  pub check-says : (P : Strip) (o : List Q) (c : Hand Q) (bs : Bindings) (g : Goal Q) → Says (place o c bs g) P (check cs P o c bs g)
  check-says Strip.top o c bs g =
      says-view Strip.top (as_top g) (λ u. Judged.fits 1 1) (λ e places f. other_word f e)
      (λ u e. (subst (λ (y : Goal Q). Proves cs o c bs y Strip.top) (sym (is-top g u e)) by-top, refl, refl))
  check-says (Strip.and P R) o c bs g =
      says-view (Strip.and P R) (as_and g) (λ x. above_both (check cs P o c bs x.0) (check cs R o c bs x.1)) (λ e places f. other_word f e)
      (λ x e. rw (is-and g x e) (says-above_both o c bs x.0 x.1 P R (check cs P o c bs x.0) (check cs R o c bs x.1) (check-says P o c bs x.0) (check-says R o c bs x.1)))
  check-says (Strip.left P) o c bs g =
      says-view (Strip.left P) (as_or g) (λ x. above 0 (check cs P o c bs x.0)) (λ e places f. other_word f e)
      (λ x e. rw (is-or g x e) (says-above (place o c bs (Goal.or x.0 x.1)) (place o c bs x.0) (Strip.left P) P (check cs P o c bs x.0) fits-left refl refl refl (check-says P o c bs x.0)))
  check-says (Strip.right P) o c bs g =
      says-view (Strip.right P) (as_or g) (λ x. above 0 (check cs P o c bs x.1)) (λ e places f. other_word f e)
      (λ x e. rw (is-or g x e) (says-above (place o c bs (Goal.or x.0 x.1)) (place o c bs x.1) (Strip.right P) P (check cs P o c bs x.1) fits-right refl refl refl (check-says P o c bs x.1)))
  check-says (Strip.some i P) o c bs g =
      says-view (Strip.some i P) (as_some g) (λ x. elim (allowed cs o x.0 i) [ true ↦ above 0 (check cs P o c (Candidate i ∷ bs) x.1) | false ↦ here ]) (λ e places f. other_word f e)
      (λ x e. rw (is-some g x e) (says_some o c bs x.0 x.1 i P (allowed cs o x.0 i) refl (check-says P o c (Candidate i ∷ bs) x.1)))
  check-says (Strip.all P) o c bs g =
      says-view (Strip.all P) (as_all g) (λ x. above 0 (check cs P (x.0 ∷ o) c (Parameter (suc (length o)) ∷ bs) x.1)) (λ e places f. other_word f e)
      (λ x e. rw (is_all g x e) (says-above (place o c bs (Goal.all x.0 x.1)) (place (x.0 ∷ o) c (Parameter (suc (length o)) ∷ bs) x.1) (Strip.all P) P (check cs P (x.0 ∷ o) c (Parameter (suc (length o)) ∷ bs) x.1) fits_all refl refl refl (check-says P (x.0 ∷ o) c (Parameter (suc (length o)) ∷ bs) x.1)))
  check-says (Strip.imp P) o c bs g =
      says-view (Strip.imp P) (as_imp g) (λ x. above 0 (check cs P o (c ++ (record { clause = x.0; bindings = bs } ∷ [])) bs x.1)) (λ e places f. other_word f e)
      (λ x e. rw (is-imp g x e) (says-above (place o c bs (Goal.imp x.0 x.1)) (place o (c ++ (record { clause = x.0; bindings = bs } ∷ [])) bs x.1) (Strip.imp P) P (check cs P o (c ++ (record { clause = x.0; bindings = bs } ∷ [])) bs x.1) fits-imp refl refl refl (check-says P o (c ++ (record { clause = x.0; bindings = bs } ∷ [])) bs x.1)))
  check-says (Strip.use₀ k path) o c bs g =
      says-view (Strip.use₀ k path) (used cs o c bs g k path) (λ x. maybe (body_of x) (Judged.fits 1 1) λ y. here) (λ e places f. no-use₀ f (λ x q n. nope (sym e ∙ q)))
      (λ x e. says-use₀ o c bs g k path x e)
  check-says (Strip.use₁ k path P) o c bs g =
      says-view (Strip.use₁ k path P) (used cs o c bs g k path) (λ x. maybe (body_of x) here λ y. above 0 (check cs P o c y.1 y.0)) (λ e places f. no-use₁ f (λ x y q n. nope (sym e ∙ q)))
      (λ x e. says-use₁ o c bs g k path P x e (λ bs₁ g₁. check-says P o c bs₁ g₁))
