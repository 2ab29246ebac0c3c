-- What a frame with unset variables may become: one variable given a candidate that may be used, and then the others.
use Prim.Native.Nat.{ℕ, zero, suc, ◌≤◌, ◌<◌}
use mathlib.Core.Path.{◌≡◌, refl, sym, ◌∙◌, ap, ap₂, subst}
use mathlib.Core.Bool.{Bool, true, false, ◌&&◌, false≢true}
use mathlib.Core.List.{List, [], ◌∷◌}
use mathlib.Core.Option.{Option, none, some}
use native.Mathlib.Omega.{arith}
use lib.Dec.{eqb, ltb, leb}
use lib.ListN.{length, get_elem?}
use borrow.Author.Tests.{eqb-true, eqb-false, eq-eqb, ne_eqb, ltb-true, ltb-false, lt-ltb, le-ltb}
use Rattle.basics.specs.Choice.{both_true}
use Rattle.harrop.specs.declared.Binding.{Binding}
use Rattle.harrop.specs.declared.Binding.TheVariants.{Candidate, Parameter}
use Rattle.harrop.specs.Formula.{Term}
use Rattle.harrop.specs.Bindings.{Bindings, highest, nothing, meant, value_of}
use Rattle.harrop.specs.Place.{Plain, listed, allowed}
use Rattle.harrop.proofs.ListLaws.{member_below}
use Rattle.room.specs.Frame.{bound_to}
use Rattle.room.proofs.FrameLaws.{bound-means}
use Rattle.mentions.specs.Open.{unset, is_unset, is_open, Becomes}
use Rattle.proving.specs.Frames.{unsets, set_to, Fills, Completes}
use Rattle.proving.proofs.AlikeLaws.{Alike}

-- what is unset
pub unset-unset : is_unset unset ≡ true
unfolding is_unset
unset-unset = eq-eqb 2147483647 2147483647 refl

pub unset-is : (b : Binding) → is_unset b ≡ true → b ≡ unset
unfolding is_unset
unset-is (Candidate i) e = ap Candidate (eqb-true i 2147483647 e)
unset-is (Parameter k) e = absurd (false≢true e)

pub candidate-set : (i : ℕ) → (i ≡ 2147483647 → ⊥) → is_unset (Candidate i) ≡ false
unfolding is_unset
candidate-set i n = ne_eqb i 2147483647 n

-- the first variable of a frame, and the others
pub open-first : (m : ℕ) (b : Binding) (bs : Bindings) → is_open (suc m) (b ∷ bs) zero ≡ is_unset b
unfolding is_open bound_to
open-first m b bs = ap (λ (x : Bool). x && is_unset b) (lt-ltb zero (suc m) (omega arith))

below_next : (i m : ℕ) → ltb (suc i) (suc m) ≡ ltb i m
below_next i m = go (ltb i m) refl
  where
    go : (b : Bool) → ltb i m ≡ b → ltb (suc i) (suc m) ≡ ltb i m
    go true e = let l = ltb-true i m e in lt-ltb (suc i) (suc m) (omega arith) ∙ sym e
    go false e = let l = ltb-false i m e in le-ltb (suc i) (suc m) (omega arith) ∙ sym e

pub open_next : (m : ℕ) (b : Binding) (bs : Bindings) (i : ℕ) → is_open (suc m) (b ∷ bs) (suc i) ≡ is_open m bs i
unfolding is_open bound_to
open_next m b bs i = ap (λ (x : Bool). x && is_unset (bound_to bs i)) (below_next i m)

unset-below : (bs : Bindings) (i : ℕ) → is_unset (bound_to bs i) ≡ true → i < length bs
unfolding is_unset bound_to
unset-below [] i e = absurd (false≢true e)
unset-below (b ∷ bs) zero e = omega arith
unset-below (b ∷ bs) (suc i) e = omega (arith, unset-below bs i e)

pub open-below : (own : ℕ) (bs : Bindings) (v : ℕ) → is_open own bs v ≡ true → (v < own) × (v < length bs)
unfolding is_open
open-below own bs v e =
    let (l, u) = both_true (ltb v own) (is_unset (bound_to bs v)) e in
    (ltb-true v own l, unset-below bs v u)

-- whether a variable is depends on its binding alone, and none is beyond the clause's own
pub open-same : (own : ℕ) (bs ds : Bindings) (v : ℕ) → bound_to bs v ≡ bound_to ds v → is_open own bs v ≡ is_open own ds v
unfolding is_open
open-same own bs ds v e = ap (λ (b : Binding). ltb v own && is_unset b) e

and_no : (a b : Bool) → b ≡ false → a && b ≡ false
and_no true b e = e
and_no false b e = refl

pub open-not : (own : ℕ) (bs : Bindings) (v : ℕ) → is_unset (bound_to bs v) ≡ false → is_open own bs v ≡ false
unfolding is_open
open-not own bs v e = and_no (ltb v own) (is_unset (bound_to bs v)) e

pub open-beyond : (own : ℕ) (bs : Bindings) (v : ℕ) → own ≤ v → is_open own bs v ≡ false
unfolding is_open
open-beyond own bs v l = ap (λ (b : Bool). b && is_unset (bound_to bs v)) (le-ltb v own l)

-- a frame with another binding for a variable
pub set_long : (v : ℕ) (d : Binding) (bs : Bindings) → length (set_to v d bs) ≡ length bs
set_long v d [] = refl
set_long zero d (b ∷ bs) = refl
set_long (suc v) d (b ∷ bs) = ap suc (set_long v d bs)

pub set_here : (v : ℕ) (d : Binding) (bs : Bindings) → v < length bs → bound_to (set_to v d bs) v ≡ d
unfolding bound_to
set_here v d [] l = absurd (omega arith)
set_here zero d (b ∷ bs) l = refl
set_here (suc v) d (b ∷ bs) l = set_here v d bs (omega arith)

pub set_there : (v i : ℕ) (d : Binding) (bs : Bindings) → (i ≡ v → ⊥) → bound_to (set_to v d bs) i ≡ bound_to bs i
unfolding bound_to
set_there v i d [] n = refl
set_there zero zero d (b ∷ bs) n = absurd (n refl)
set_there zero (suc i) d (b ∷ bs) n = refl
set_there (suc v) zero d (b ∷ bs) n = refl
set_there (suc v) (suc i) d (b ∷ bs) n = set_there v i d bs (λ e. n (ap suc e))

pub set_same : (v : ℕ) (bs : Bindings) → set_to v (bound_to bs v) bs ≡ bs
unfolding bound_to
set_same v [] = refl
set_same zero (b ∷ bs) = refl
set_same (suc v) (b ∷ bs) = ap (λ (z : Bindings). b ∷ z) (set_same v bs)

-- an open variable is unset already
pub set-open : (own : ℕ) (bs : Bindings) (v : ℕ) → is_open own bs v ≡ true → set_to v unset bs ≡ bs
unfolding is_open
set-open own bs v e =
    let u = unset-is (bound_to bs v) (both_true (ltb v own) (is_unset (bound_to bs v)) e).1 in
    ap (λ (d : Binding). set_to v d bs) (sym u) ∙ set_same v bs

pub open-there : (own v i : ℕ) (d : Binding) (bs : Bindings) → (i ≡ v → ⊥) → is_open own (set_to v d bs) i ≡ is_open own bs i
open-there own v i d bs n = open-same own (set_to v d bs) bs i (set_there v i d bs n)

pub open-here : (own v : ℕ) (d : Binding) (bs : Bindings) → v < length bs → is_unset d ≡ false → is_open own (set_to v d bs) v ≡ false
open-here own v d bs l n = open-not own (set_to v d bs) v (ap is_unset (set_here v d bs l) ∙ n)

pub open-unset : (own v : ℕ) (bs : Bindings) → v < own → v < length bs → is_open own (set_to v unset bs) v ≡ true
unfolding is_open
open-unset own v bs l n = ap₂ ◌&&◌ (lt-ltb v own l) (ap is_unset (set_here v unset bs n) ∙ unset-unset)

-- where only variables up to v may be open: those before it, if it is not, or if it is set
pub open-less : (own k : ℕ) (bs : Bindings) → ((i : ℕ) → suc k ≤ i → is_open own bs i ≡ false) → is_open own bs k ≡ false → (i : ℕ) → k ≤ i → is_open own bs i ≡ false
open-less own k bs n e i l = go (eqb i k) refl
  where
    go : (b : Bool) → eqb i k ≡ b → is_open own bs i ≡ false
    go true h = ap (is_open own bs) (eqb-true i k h) ∙ e
    go false h = let d = eqb-false i k h in n i (omega arith)

pub open-set : (own v : ℕ) (d : Binding) (bs : Bindings) → v < length bs → is_unset d ≡ false → ((i : ℕ) → v < i → is_open own bs i ≡ false) → (i : ℕ) → v ≤ i → is_open own (set_to v d bs) i ≡ false
open-set own v d bs l u n =
    open-less own v (set_to v d bs) (λ i h. open-there own v i d bs (λ z. omega arith) ∙ n i (omega arith)) (open-here own v d bs l u)

-- and the terms that the variables stand for
pub value_there : (us : List Term) (v i : ℕ) (d : Binding) (bs : Bindings) → (i ≡ v → ⊥) → value_of us (set_to v d bs) i ≡ value_of us bs i
value_there us v i d bs n = sym (bound-means us (set_to v d bs) i) ∙ ap (meant us) (set_there v i d bs n) ∙ bound-means us bs i

-- what a frame may become with a variable set it may become with the variable unset, and the variable stands for what it is set to
pub becomes-less : (us : List Term) (m v : ℕ) (d : Binding) (fr es : Bindings) → v < m → v < length fr → Becomes us m (set_to v d fr) es → Becomes us m (set_to v unset fr) es
becomes-less us m v d fr es l n b j h =
    b j (open-there m v j d fr other ∙ (sym (open-there m v j unset fr other) ∙ h))
    ∙ (value_there us v j d fr other ∙ sym (value_there us v j unset fr other))
  where
    other : j ≡ v → ⊥
    other e = false≢true (sym h ∙ (ap (is_open m (set_to v unset fr)) e ∙ open-unset m v fr l n))

pub becomes-value : (us : List Term) (m v i : ℕ) (fr es : Bindings) → v < length fr → (i ≡ 2147483647 → ⊥) → Becomes us m (set_to v (Candidate i) fr) es → value_of us es v ≡ meant us (Candidate i)
becomes-value us m v i fr es n k b =
    b v (open-here m v (Candidate i) fr n (candidate-set i k)) ∙ (sym (bound-means us (set_to v (Candidate i) fr) v) ∙ ap (meant us) (set_here v (Candidate i) fr n))

pub set-alike : (us : List Term) (v : ℕ) (d : Binding) (bs : Bindings) → value_of us bs v ≡ meant us d → Alike us bs (set_to v d bs)
set-alike us v d [] e i = refl
set-alike us zero d (b ∷ bs) e zero = e
set-alike us zero d (b ∷ bs) e (suc i) = refl
set-alike us (suc v) d (b ∷ bs) e zero = refl
set-alike us (suc v) d (b ∷ bs) e (suc i) = set-alike us v d bs e i

-- so many unset variables before others
pub unsets-long : (m : ℕ) (bs : Bindings) → m ≤ length (unsets m bs)
unsets-long zero bs = omega arith
unsets-long (suc m) bs = omega (arith, unsets-long m bs)

pub unsets-open : (m : ℕ) (bs : Bindings) (i : ℕ) → i < m → is_open m (unsets m bs) i ≡ true
unsets-open zero bs i l = absurd (omega arith)
unsets-open (suc m) bs zero l = open-first m unset (unsets m bs) ∙ unset-unset
unsets-open (suc m) bs (suc i) l = open_next m unset (unsets m bs) i ∙ unsets-open m bs i (omega arith)

module _ (us : List Term) (o : List Plain) where
  -- candidates that may be used
  abbrev may : Option Term → Bool
  may x = elim x [ none ↦ false | some t ↦ leb (highest t) (length o) && true ]

  abbrev stands-for : Option Term → Term
  stands-for x = elim x [ none ↦ nothing | some t ↦ t ]

  pub may-is : (i : ℕ) → allowed (listed us) o tt i ≡ true → (t : Term) × (get_elem? us i ≡ some t)
  may-is i e = go (get_elem? us i) refl e
    where
      go : (x : Option Term) → get_elem? us i ≡ x → may x ≡ true → (t : Term) × (get_elem? us i ≡ some t)
      go none h f = absurd (false≢true f)
      go (some t) h f = (t, h)

  pub may-below : (i : ℕ) → allowed (listed us) o tt i ≡ true → i < length us
  may-below i e = let (t, h) = may-is i e in member_below us i t h

  pub may-set : (i : ℕ) → allowed (listed us) o tt i ≡ true → length us ≤ 2147483647 → is_unset (Candidate i) ≡ false
  may-set i e l = candidate-set i (λ z. omega (arith, may-below i e))

  -- those of the same term may be used alike, as long as none is the term that stands in for nothing
  pub may-too : (i j : ℕ) → ((k : ℕ) (t : Term) → get_elem? us k ≡ some t → t ≡ nothing → ⊥) → allowed (listed us) o tt i ≡ true → meant us (Candidate i) ≡ meant us (Candidate j) → allowed (listed us) o tt j ≡ true
  may-too i j real e s = go (get_elem? us i) (get_elem? us j) (real i) e s
    where
      go : (x y : Option Term) → ((t : Term) → x ≡ some t → t ≡ nothing → ⊥) → may x ≡ true → stands-for x ≡ stands-for y → may y ≡ true
      go none y r f m = absurd (false≢true f)
      go (some t) none r f m = absurd (r t refl m)
      go (some t) (some u) r f m = subst (λ (z : Term). may (some z) ≡ true) m f

  fills-own : (i : ℕ) (d : Binding) → d ≡ Candidate i → allowed (listed us) o tt i ≡ true → Fills us o (Candidate i) d
  fills-own i d s w = record { gets = λ u. (i, s, w); stays = λ u. s }

  fills-unset : (i : ℕ) (d : Binding) → d ≡ Candidate i → allowed (listed us) o tt i ≡ true → Fills us o unset d
  fills-unset i d s w = record { gets = λ u. (i, s, w); stays = λ u. absurd (false≢true (sym u ∙ unset-unset)) }

  fills-less : (i : ℕ) (d : Binding) → allowed (listed us) o tt i ≡ true → Fills us o (Candidate i) d → Fills us o unset d
  fills-less i d w f = go (is_unset (Candidate i)) refl
    where
      go : (b : Bool) → is_unset (Candidate i) ≡ b → Fills us o unset d
      go true u = let (j, s, k) = f.gets u in fills-unset j d s k
      go false u = fills-unset i d (f.stays u) w

  pub completes-long : (m : ℕ) (fr ds : Bindings) → Completes us o m fr ds → length ds ≡ length fr
  completes-long zero fr ds e = ap (λ (z : Bindings). length z) e
  completes-long (suc m) [] ds e = absurd e
  completes-long (suc m) (b ∷ fr) [] e = absurd e
  completes-long (suc m) (b ∷ fr) (d ∷ ds) e = ap suc (completes-long m fr ds e.1)

  -- what is set stays
  pub completes-becomes : (m : ℕ) (fr ds : Bindings) → Completes us o m fr ds → Becomes us m fr ds
  completes-becomes zero fr ds e i h = ap (λ (z : Bindings). value_of us z i) e
  completes-becomes (suc m) [] ds e i h = absurd e
  completes-becomes (suc m) (b ∷ fr) [] e i h = absurd e
  completes-becomes (suc m) (b ∷ fr) (d ∷ ds) e zero h = ap (meant us) (e.0.stays (sym (open-first m b fr) ∙ h))
  completes-becomes (suc m) (b ∷ fr) (d ∷ ds) e (suc i) h = completes-becomes m fr ds e.1 i (sym (open_next m b fr i) ∙ h)

  -- with nothing open there is one, the frame itself
  pub completes-only : (m : ℕ) (fr ds : Bindings) → ((i : ℕ) → is_open m fr i ≡ false) → Completes us o m fr ds → ds ≡ fr
  completes-only zero fr ds n e = e
  completes-only (suc m) [] ds n e = absurd e
  completes-only (suc m) (b ∷ fr) [] n e = absurd e
  completes-only (suc m) (b ∷ fr) (d ∷ ds) n e =
      ap₂ ◌∷◌ (e.0.stays (sym (open-first m b fr) ∙ n zero)) (completes-only m fr ds (λ i. sym (open_next m b fr i) ∙ n (suc i)) e.1)

  pub completes-self : (m : ℕ) (fr : Bindings) → m ≤ length fr → ((i : ℕ) → is_open m fr i ≡ false) → Completes us o m fr fr
  completes-self zero fr l n = refl
  completes-self (suc m) [] l n = absurd (omega arith)
  completes-self (suc m) (b ∷ fr) l n =
      (record { gets = λ u. absurd (false≢true (sym (sym (open-first m b fr) ∙ n zero) ∙ u)); stays = λ u. refl }, completes-self m fr (omega arith) (λ i. sym (open_next m b fr i) ∙ n (suc i)))

  -- a variable set to a candidate that may be used is one way to complete it unset
  pub completes-less : (m v i : ℕ) (fr ds : Bindings) → v < m → allowed (listed us) o tt i ≡ true → Completes us o m (set_to v (Candidate i) fr) ds → Completes us o m (set_to v unset fr) ds
  completes-less zero v i fr ds l w e = absurd (omega arith)
  completes-less (suc m) v i [] ds l w e = absurd e
  completes-less (suc m) zero i (b ∷ fr) [] l w e = absurd e
  completes-less (suc m) zero i (b ∷ fr) (d ∷ ds) l w e = (fills-less i d w e.0, e.1)
  completes-less (suc m) (suc v) i (b ∷ fr) [] l w e = absurd e
  completes-less (suc m) (suc v) i (b ∷ fr) (d ∷ ds) l w e = (e.0, completes-less m v i fr ds (omega arith) w e.1)

  -- and each way is one of these
  pub completes-more : (m v : ℕ) (fr ds : Bindings) → v < m → Completes us o m (set_to v unset fr) ds → (i : ℕ) × (allowed (listed us) o tt i ≡ true) × (bound_to ds v ≡ Candidate i) × Completes us o m (set_to v (Candidate i) fr) ds
  unfolding bound_to
  completes-more zero v fr ds l e = absurd (omega arith)
  completes-more (suc m) v [] ds l e = absurd e
  completes-more (suc m) zero (b ∷ fr) [] l e = absurd e
  completes-more (suc m) zero (b ∷ fr) (d ∷ ds) l e =
      let (i, s, w) = e.0.gets unset-unset in
      (i, w, s, (fills-own i d s w, e.1))
  completes-more (suc m) (suc v) (b ∷ fr) [] l e = absurd e
  completes-more (suc m) (suc v) (b ∷ fr) (d ∷ ds) l e =
      let (i, w, s, k) = completes-more m v fr ds (omega arith) e.1 in
      (i, w, s, (e.0, k))

  -- the candidate that an open variable gets may be another
  pub completes-swap : (m v i : ℕ) (fr ds : Bindings) → v < m → allowed (listed us) o tt i ≡ true → Completes us o m (set_to v unset fr) ds → Completes us o m (set_to v (Candidate i) fr) (set_to v (Candidate i) ds)
  completes-swap zero v i fr ds l w e = absurd (omega arith)
  completes-swap (suc m) v i [] ds l w e = absurd e
  completes-swap (suc m) zero i (b ∷ fr) [] l w e = absurd e
  completes-swap (suc m) zero i (b ∷ fr) (d ∷ ds) l w e = (fills-own i (Candidate i) refl w, e.1)
  completes-swap (suc m) (suc v) i (b ∷ fr) [] l w e = absurd e
  completes-swap (suc m) (suc v) i (b ∷ fr) (d ∷ ds) l w e = (e.0, completes-swap m v i fr ds (omega arith) w e.1)

  -- unset variables before others: the last of them first
  pub completes-with : (m i : ℕ) (bs ds : Bindings) → allowed (listed us) o tt i ≡ true → Completes us o m (unsets m (Candidate i ∷ bs)) ds → Completes us o (suc m) (unsets (suc m) bs) ds
  completes-with zero i bs ds w e = subst (λ (z : Bindings). Completes us o 1 (unset ∷ bs) z) (sym e) (fills-unset i (Candidate i) refl w, refl)
  completes-with (suc m) i bs [] w e = absurd e
  completes-with (suc m) i bs (d ∷ ds) w e = (e.0, completes-with m i bs ds w e.1)

  pub completes-from : (m : ℕ) (bs ds : Bindings) → Completes us o (suc m) (unsets (suc m) bs) ds → (i : ℕ) × (allowed (listed us) o tt i ≡ true) × Completes us o m (unsets m (Candidate i ∷ bs)) ds
  completes-from m bs [] e = absurd e
  completes-from zero bs (d ∷ ds) e =
      let (i, s, w) = e.0.gets unset-unset in
      (i, w, ap₂ ◌∷◌ s e.1)
  completes-from (suc m) bs (d ∷ ds) e =
      let (i, w, k) = completes-from m bs ds e.1 in
      (i, w, (e.0, k))
