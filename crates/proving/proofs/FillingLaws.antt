-- A clause with no `and` on the way to its head, searched with its variables unset at first: a path through it ends well exactly if its frame can be completed so that one does (document 02, Three: no verdict and no strip changes).
-- A frame where an open variable is set to what the atom forces says as much as the frame before, and a no of the head or of the body is a no of the frame.
use Prim.Native.Nat.{ℕ, zero, suc, ◌+◌, ◌-◌, ◌≤◌, ◌<◌}
use mathlib.Core.Path.{◌≡◌, refl, sym, ◌∙◌, ap, ap₂, subst}
use mathlib.Core.Bool.{Bool, true, false, ◌&&◌, ◌||◌, false≢true}
use mathlib.Core.List.{List, ◌∷◌}
use mathlib.Core.Option.{some}
use native.Mathlib.Omega.{arith}
use lib.Dec.{eqb}
use lib.ListN.{length, get_elem?}
use borrow.Author.Tests.{eqb-true, eqb-false}
use Rattle.basics.specs.Choice.{both_true}
use Rattle.harrop.specs.declared.Binding.{Binding}
use Rattle.harrop.specs.declared.Binding.TheVariants.{Candidate}
use Rattle.harrop.specs.Formula.{Term, Atom, Goal, Clause}
use Rattle.harrop.specs.Bindings.{Bindings, nothing, meant, value_of, replaced_atom, same_atom}
use Rattle.harrop.specs.Place.{Hand, Plain, listed, allowed}
use Rattle.room.specs.Files.{Files}
use Rattle.room.proofs.FrameLaws.{bound-means}
use Rattle.mentions.specs.Open.{unset, is_open, Becomes}
use Rattle.keys.proofs.WalkLaws.{candidate-meant}
use Rattle.proving.specs.Provable.{any_from, candidate_does, candidates_from, through, ending, provable}
use Rattle.proving.specs.Proving.{passes}
use Rattle.proving.specs.Parts.{is_plain, quantifiers, core}
use Rattle.proving.specs.Frames.{alls, unsets, set_to, Completes}
use Rattle.proving.specs.First.{FirstFrame}
use Rattle.proving.specs.Filling.{Fillable, Filled, Fails, FilledWith, LookedAll, LookedNew, HeadIn, PartsIn}
use Rattle.proving.specs.declared.plain.Parts.{Parts}
use Rattle.proving.proofs.AlikeLaws.{passes-alike}
use Rattle.proving.proofs.CompletesLaws.{may-is, may-below, may-too, open-beyond, open-below, set-open, set-alike, completes-becomes, completes-only, completes-less, completes-more, completes-swap, completes-with, completes-from}
use Rattle.proving.proofs.FirstLaws.{first-completes}
use Rattle.proving.proofs.LookedLaws.{looked-set, looked-whole}

-- one that answers yes, found and given
one_of : (f : ℕ → Bool) (i n : ℕ) → any_from f i n ≡ true → (j : ℕ) × (f j ≡ true)
unfolding any_from
one_of f i zero e = absurd (false≢true e)
one_of f i (suc n) e = go (f i) refl (λ z. one_of f (suc i) n z)
  where
    go : (b : Bool) → f i ≡ b → (any_from f (suc i) n ≡ true → (j : ℕ) × (f j ≡ true)) → (j : ℕ) × (f j ≡ true)
    go true h k = (i, h)
    go false h k = k (ap (λ (b : Bool). b || any_from f (suc i) n) (sym h) ∙ e)

or-true : (a b : Bool) → b ≡ true → a || b ≡ true
or-true true b e = refl
or-true false b e = e

pub any_of : (f : ℕ → Bool) (i n j : ℕ) → i ≤ j → j < i + n → f j ≡ true → any_from f i n ≡ true
unfolding any_from
any_of f i zero j l m e = absurd (omega arith)
any_of f i (suc n) j l m e = go (eqb i j) refl (λ z. any_of f (suc i) n j z (omega arith) e)
  where
    go : (b : Bool) → eqb i j ≡ b → (suc i ≤ j → any_from f (suc i) n ≡ true) → f i || any_from f (suc i) n ≡ true
    go true h k = ap (λ (k : ℕ). f k || any_from f (suc i) n) (eqb-true i j h) ∙ ap (λ (b : Bool). b || any_from f (suc i) n) e
    go false h k = let d = eqb-false i j h in or-true (f i) (any_from f (suc i) n) (k (omega arith))

pub refuted : (b : Bool) → (b ≡ true → ⊥) → b ≡ false
refuted true n = absurd (n refl)
refuted false n = refl

pub and_none : (b : Bool) → b && false ≡ false
and_none true = refl
and_none false = refl

-- the head of a clause with no quantifier and no `and`
abbrev pub HeadOf : Clause Plain → Atom → Type 0
HeadOf (Clause.atom_d b) h = b ≡ h
HeadOf (Clause.imp_d g b) h = b ≡ h
HeadOf (Clause.all_d q d) h = ⊥
HeadOf (Clause.and_d d e) h = ⊥

pub parts-head : (f : Files) (room : List ℕ) (p : Parts) (e : Clause Plain) (fr : Bindings) → PartsIn f room p e fr → (b : Atom) × HeadOf e b × HeadIn f room p b fr
parts-head f room p (Clause.atom_d b) fr h = (b, refl, h.1)
parts-head f room p (Clause.imp_d g b) fr h = (b, refl, h.1)
parts-head f room p (Clause.all_d q d) fr h = absurd h
parts-head f room p (Clause.and_d d e) fr h = absurd h

-- a clause with no `and` on the way to its head is its quantifiers around what is inside them, and has a head there
pub plain-is : (d : Clause Plain) → is_plain d ≡ true → alls (quantifiers d) (core d) ≡ d
plain-is (Clause.atom_d b) e = refl
plain-is (Clause.imp_d g b) e = refl
plain-is (Clause.all_d q d) e = ap (Clause.all_d q) (plain-is d e)
plain-is (Clause.and_d c d) e = absurd (false≢true e)

pub plain-has-head : (d : Clause Plain) → is_plain d ≡ true → (b : Atom) × HeadOf (core d) b
plain-has-head (Clause.atom_d b) e = (b, refl)
plain-has-head (Clause.imp_d g b) e = (b, refl)
plain-has-head (Clause.all_d q d) e = plain-has-head d e
plain-has-head (Clause.and_d c d) e = absurd (false≢true e)

module _ (us : List Term) (left : ℕ) (o : List Plain) (c : Hand Plain) (bs : Bindings) (a : Atom) where
  -- so many quantifiers around a clause
  pub alls-yes : (m : ℕ) (e : Clause Plain) (bs' : Bindings) → passes us left o c bs a (alls m e) bs' ≡ true → (ds : Bindings) × Completes us o m (unsets m bs') ds × (passes us left o c bs a e ds ≡ true)
  unfolding through candidates_from candidate_does
  alls-yes zero e bs' p = (bs', refl, p)
  alls-yes (suc m) e bs' p =
      let try : ℕ → Bool = λ i. passes us left o c bs a (alls m e) (Candidate i ∷ bs') in
      let (i, q) = one_of (candidate_does (listed us) o tt try) 0 (length us - 0) p in
      let (w, y) = both_true (allowed (listed us) o tt i) (try i) q in
      let (ds, k, r) = alls-yes m e (Candidate i ∷ bs') y in
      (ds, completes-with us o m i bs' ds w k, r)

  alls-of : (m : ℕ) (e : Clause Plain) (bs' ds : Bindings) → Completes us o m (unsets m bs') ds → passes us left o c bs a e ds ≡ true → passes us left o c bs a (alls m e) bs' ≡ true
  unfolding through candidates_from candidate_does
  alls-of zero e bs' ds k p = ap (λ (z : Bindings). passes us left o c bs a e z) (sym k) ∙ p
  alls-of (suc m) e bs' ds k p =
      let try : ℕ → Bool = λ i. passes us left o c bs a (alls m e) (Candidate i ∷ bs') in
      let (i, w, k') = completes-from us o m bs' ds k in
      let l = may-below us o i w in
      any_of (candidate_does (listed us) o tt try) 0 (length us - 0) i (omega arith) (omega (arith, l)) (ap₂ ◌&&◌ w (alls-of m e (Candidate i ∷ bs') ds k' p))

  -- what is said of its frame with all of them unset is said of the whole clause
  pub alls-fillable : (m : ℕ) (e : Clause Plain) (bs' : Bindings) (r : Bool) → Fillable us left o c bs a e m (unsets m bs') r → r ≡ passes us left o c bs a (alls m e) bs'
  alls-fillable m e bs' true f = let (ds, k, p) = f.yes refl in sym (alls-of m e bs' ds k p)
  alls-fillable m e bs' false f =
      sym (refuted (passes us left o c bs a (alls m e) bs') (λ z. let (ds, k, p) = alls-yes m e bs' z in false≢true (sym (f.no refl ds k) ∙ p)))

  -- where the head is not the atom, a path does not end well
  pub head-no : (e : Clause Plain) (b : Atom) (ds : Bindings) → HeadOf e b → same_atom (replaced_atom us ds b) (replaced_atom us bs a) ≡ false → passes us left o c bs a e ds ≡ false
  unfolding through ending
  head-no (Clause.atom_d b') b ds h s = ap (λ (z : Atom). same_atom (replaced_atom us ds z) (replaced_atom us bs a)) h ∙ s
  head-no (Clause.imp_d g b') b ds h s =
      ap (λ (x : Bool). x && provable (listed us) left o c ds g) (ap (λ (z : Atom). same_atom (replaced_atom us ds z) (replaced_atom us bs a)) h ∙ s)
  head-no (Clause.all_d q d) b ds h s = absurd h
  head-no (Clause.and_d d e) b ds h s = absurd h

  pub head-yes : (e : Clause Plain) (b : Atom) (ds : Bindings) → HeadOf e b → passes us left o c bs a e ds ≡ true → same_atom (replaced_atom us ds b) (replaced_atom us bs a) ≡ true
  head-yes e b ds h p = go (same_atom (replaced_atom us ds b) (replaced_atom us bs a)) refl
    where
      go : (x : Bool) → same_atom (replaced_atom us ds b) (replaced_atom us bs a) ≡ x → same_atom (replaced_atom us ds b) (replaced_atom us bs a) ≡ true
      go true s = s
      go false s = absurd (false≢true (sym (head-no e b ds h s) ∙ p))

  module _ (e : Clause Plain) (m : ℕ) (fr : Bindings) where
    pub never-fills : ((ds : Bindings) → Completes us o m fr ds → passes us left o c bs a e ds ≡ false) → Fillable us left o c bs a e m fr false
    never-fills n = record { yes = λ z. absurd (false≢true z); no = λ z. n }

    -- the head is not the atom, whatever the frame becomes
    pub head-differs : (b : Atom) → HeadOf e b → ((ds : Bindings) → Becomes us m fr ds → same_atom (replaced_atom us ds b) (replaced_atom us bs a) ≡ false) → Fillable us left o c bs a e m fr false
    head-differs b h n = never-fills (λ ds k. head-no e b ds h (n ds (completes-becomes us o m fr ds k)))

  -- the body has no proof, whatever the frame becomes
  pub body-lacks : (g : Goal Plain) (b : Atom) (m : ℕ) (fr : Bindings) → ((ds : Bindings) → Completes us o m fr ds → provable (listed us) left o c ds g ≡ false) → Fillable us left o c bs a (Clause.imp_d g b) m fr false
  unfolding through ending
  body-lacks g b m fr n =
      never-fills (Clause.imp_d g b) m fr
      (λ ds k. let s : Bool = same_atom (replaced_atom us ds b) (replaced_atom us bs a) in ap (λ (x : Bool). s && x) (n ds k) ∙ and_none s)

  -- variable v is open, and whatever frame ends well gives it one term
  module _ (e : Clause Plain) (m : ℕ) (fr : Bindings) (v : ℕ) (u : is_open m fr v ≡ true) where
    unset-again : (ds : Bindings) → Completes us o m fr ds → Completes us o m (set_to v unset fr) ds
    unset-again ds k = subst (λ (z : Bindings). Completes us o m z ds) (sym (set-open m fr v u)) k

    pub forced-set : (i : ℕ) (s : Bool) → ((ds : Bindings) → passes us left o c bs a e ds ≡ true → value_of us ds v ≡ meant us (Candidate i)) → allowed (listed us) o tt i ≡ true
        → Fillable us left o c bs a e m (set_to v (Candidate i) fr) s → Fillable us left o c bs a e m fr s
    forced-set i s forced w f =
        record {
          yes = λ z.
              let (ds, k, p) = f.yes z in
              (ds, subst (λ (x : Bindings). Completes us o m x ds) (set-open m fr v u) (completes-less us o m v i fr ds (open-below m fr v u).0 w k), p);
          no = λ z ds k. refuted (passes us left o c bs a e ds) (λ p.
              let same = passes-alike (listed us) left o c a bs e ds (set_to v (Candidate i) ds) (set-alike us v (Candidate i) ds (forced ds p)) in
              let none = f.no z (set_to v (Candidate i) ds) (completes-swap us o m v i fr ds (open-below m fr v u).0 w (unset-again ds k)) in
              false≢true (sym none ∙ (sym same ∙ p)));
        }

    -- a candidate that may not be used
    pub forced-barred : (i : ℕ) → ((k : ℕ) (t : Term) → get_elem? us k ≡ some t → t ≡ nothing → ⊥) → ((ds : Bindings) → passes us left o c bs a e ds ≡ true → value_of us ds v ≡ meant us (Candidate i)) → allowed (listed us) o tt i ≡ false
        → Fillable us left o c bs a e m fr false
    forced-barred i real forced n =
        never-fills e m fr (λ ds k. refuted (passes us left o c bs a e ds) (λ p.
        let (j, w, s, k') = completes-more us o m v fr ds (open-below m fr v u).0 (unset-again ds k) in
        let same = ap (meant us) (sym s) ∙ bound-means us ds v ∙ forced ds p in
        false≢true (sym n ∙ may-too us o j i real w same)))

    -- the term is no candidate
    pub forced-never : (t : Term) → ((ds : Bindings) → passes us left o c bs a e ds ≡ true → value_of us ds v ≡ t) → ((i : ℕ) → get_elem? us i ≡ some t → ⊥) → Fillable us left o c bs a e m fr false
    forced-never t forced n =
        never-fills e m fr (λ ds k. refuted (passes us left o c bs a e ds) (λ p.
        let (j, w, s, k') = completes-more us o m v fr ds (open-below m fr v u).0 (unset-again ds k) in
        let (t', q) = may-is us o j w in
        n j (q ∙ ap some (candidate-meant us j t' q ∙ ap (meant us) (sym s) ∙ bound-means us ds v ∙ forced ds p))))

  module _ (e : Clause Plain) (m : ℕ) (fr : Bindings) (v : ℕ) where
    -- with candidate i
    pub with-fails : (i : ℕ) (end : Bindings) → Fails us left o c bs a e m v i fr → FilledWith us left o c bs a e m v i fr end false
    with-fails i end n = record { yes = λ z. absurd (false≢true z); no = λ z. n }

    pub with-barred : (i : ℕ) (end : Bindings) → allowed (listed us) o tt i ≡ false → FilledWith us left o c bs a e m v i fr end false
    with-barred i end n = with-fails i end (λ w. absurd (false≢true (sym n ∙ w)))

    pub with-goes : (i : ℕ) (end : Bindings) (r : Bool) → allowed (listed us) o tt i ≡ true → Filled us left o c bs a e m v (set_to v (Candidate i) fr) end r → FilledWith us left o c bs a e m v i fr end r
    with-goes i end r w f = record { yes = λ z. (w, (f.yes z).0, (f.yes z).1); no = λ z w'. f.no z }

    -- one candidate after the other
    pub each-hit : (i : ℕ) (end : Bindings) → is_open m fr v ≡ true → ((j : ℕ) → j < i → Fails us left o c bs a e m v j fr) → FilledWith us left o c bs a e m v i fr end true → Filled us left o c bs a e m (suc v) fr end true
    each-hit i end u n f =
        let (w, t, p) = f.yes refl in
        record { yes = λ z. (FirstFrame.tried i u w n t, p); no = λ z. absurd (false≢true (sym z)) }

    pub each-done : (end : Bindings) → is_open m fr v ≡ true → ((i : ℕ) → i < length us → Fails us left o c bs a e m v i fr) → Filled us left o c bs a e m (suc v) fr end false
    each-done end u f =
        record {
          yes = λ z. absurd (false≢true z);
          no = λ z ds k.
              let (i, w, s, k') = completes-more us o m v fr ds (open-below m fr v u).0 (subst (λ (x : Bindings). Completes us o m x ds) (sym (set-open m fr v u)) k) in
              f i (may-below us o i w) w ds k';
        }

    -- a variable that is set
    pub set-goes : (end : Bindings) (r : Bool) → is_open m fr v ≡ false → Filled us left o c bs a e m v fr end r → Filled us left o c bs a e m (suc v) fr end r
    set-goes end r n f = record { yes = λ z. (FirstFrame.set n (f.yes z).0, (f.yes z).1); no = f.no }

  -- nothing is open: the body has a proof, and the head decides
  ends-well : (e : Clause Plain) (b : Atom) (m : ℕ) (fr : Bindings) → ((i : ℕ) → is_open m fr i ≡ false) → HeadOf e b → LookedAll us left o c m e fr → same_atom (replaced_atom us fr b) (replaced_atom us bs a) ≡ true → passes us left o c bs a e fr ≡ true
  unfolding through ending
  ends-well (Clause.atom_d b') b m fr n h k s = ap (λ (z : Atom). same_atom (replaced_atom us fr z) (replaced_atom us bs a)) h ∙ s
  ends-well (Clause.imp_d g b') b m fr n h k s = ap₂ ◌&&◌ (ap (λ (z : Atom). same_atom (replaced_atom us fr z) (replaced_atom us bs a)) h ∙ s) (looked-whole us o c m fr n left g k)
  ends-well (Clause.all_d q d) b m fr n h k s = absurd h
  ends-well (Clause.and_d d e) b m fr n h k s = absurd h

  pub filled : (e : Clause Plain) (b : Atom) (m : ℕ) (fr : Bindings) (r : Bool) → HeadOf e b → ((i : ℕ) → is_open m fr i ≡ false) → LookedAll us left o c m e fr → r ≡ same_atom (replaced_atom us fr b) (replaced_atom us bs a) → Filled us left o c bs a e m zero fr fr r
  filled e b m fr r h n k s =
      record {
        yes = λ z. (FirstFrame.whole, ends-well e b m fr n h k (sym s ∙ z));
        no = λ z ds q. ap (λ (x : Bindings). passes us left o c bs a e x) (completes-only us o m fr ds n q) ∙ head-no e b fr h (sym s ∙ z);
      }

  -- where all own variables may be unset, the first completion is one
  pub filled-fillable : (e : Clause Plain) (m : ℕ) (fr end : Bindings) (r : Bool) → length us ≤ 2147483647 → m ≤ length fr → Filled us left o c bs a e m m fr end r → Fillable us left o c bs a e m fr r
  filled-fillable e m fr end r few l f =
      record {
        yes = λ z. (end, first-completes us o m (passes us left o c bs a e) few (omega arith) l (open-beyond m fr) (f.yes z).0, (f.yes z).1);
        no = f.no;
      }

  -- the goals of the body, once variable v is set
  pub looked-all : (e : Clause Plain) (m v : ℕ) (d d' : Binding) (fr : Bindings) → LookedAll us left o c m e (set_to v d fr) → LookedNew us left o c m true v e (set_to v d' fr) → LookedAll us left o c m e (set_to v d' fr)
  looked-all (Clause.atom_d b) m v d d' fr k l = tt
  looked-all (Clause.imp_d g b) m v d d' fr k l = looked-set us o c m v d d' fr left g k l
  looked-all (Clause.all_d q x) m v d d' fr k l = tt
  looked-all (Clause.and_d x y) m v d d' fr k l = tt

  -- and at first, when none is asked for
  pub looked-start : (e : Clause Plain) (m : ℕ) (fr : Bindings) → LookedNew us left o c m false 0 e fr → LookedAll us left o c m e fr
  looked-start (Clause.atom_d b) m fr l = tt
  looked-start (Clause.imp_d g b) m fr l = l
  looked-start (Clause.all_d q d) m fr l = tt
  looked-start (Clause.and_d d d') m fr l = tt
