-- The first completion of a frame (specs/First): it is one of its completions, its numbers are the words of the room, and a completion of the frame with nothing set is as good as one of the frame in which what is forced is set.
use Prim.Native.Nat.{ℕ, zero, suc, ◌+◌, ◌-◌, ◌≤◌, ◌<◌}
use mathlib.Core.Path.{◌≡◌, refl, sym, ◌∙◌, ap, ap₂, subst}
use mathlib.Core.Bool.{Bool, true, false, false≢true}
use mathlib.Core.List.{List, [], ◌∷◌}
use native.Mathlib.Omega.{arith}
use lib.Dec.{eqb}
use lib.ListN.{length, get_or, drop}
use borrow.Author.Tests.{eqb-true, eqb-false}
use Rattle.harrop.specs.declared.Binding.{Binding}
use Rattle.harrop.specs.declared.Binding.TheVariants.{Candidate}
use Rattle.harrop.specs.Formula.{Term, Atom, Clause, Step}
use Rattle.harrop.specs.Bindings.{Bindings, meant, value_of}
use Rattle.harrop.specs.Place.{Hand, Plain, listed, allowed}
use Rattle.room.specs.Frame.{binding_word, binding_of, bindings_in, bound_to}
use Rattle.room.proofs.FrameLaws.{bound-in, binding-word}
use Rattle.mentions.specs.Open.{is_unset, is_open}
use Rattle.proving.specs.Proving.{passes}
use Rattle.proving.specs.Frames.{unsets, set_to, Fills, Completes}
use Rattle.proving.specs.First.{FirstFrame, ForcedOn, Forcing, number_of, steps_of, PathIn, Located}
use Rattle.proving.proofs.AlikeLaws.{Alike, alike-more}
use Rattle.proving.proofs.CompletesLaws.{unset-unset, open_next, open-below, open-less, open-there, open-set, set_long, set_here, set_there, set-open, may-set, completes-self, completes-less, unsets-open}

-- a frame from variable k on: that variable, and those around it
pub drop-bound : (k : ℕ) (fr : Bindings) → k < length fr → drop k fr ≡ bound_to fr k ∷ drop (suc k) fr
unfolding bound_to
drop-bound k [] l = absurd (omega arith)
drop-bound zero (b ∷ fr) l = refl
drop-bound (suc k) (b ∷ fr) l = drop-bound k fr (omega arith)

pub drop-set : (m v : ℕ) (d : Binding) (fr : Bindings) → v < m → drop m (set_to v d fr) ≡ drop m fr
drop-set zero v d fr l = absurd (omega arith)
drop-set (suc m) v d [] l = refl
drop-set (suc m) zero d (b ∷ fr) l = refl
drop-set (suc m) (suc v) d (b ∷ fr) l = drop-set m v d fr (omega arith)

pub drop-set_to : (k : ℕ) (d : Binding) (fr : Bindings) → k < length fr → drop k (set_to k d fr) ≡ d ∷ drop (suc k) fr
drop-set_to k d fr l =
    drop-bound k (set_to k d fr) (omega (arith, set_long k d fr)) ∙ ap₂ {C = Bindings} ◌∷◌ (set_here k d fr l) (drop-set (suc k) k d fr (omega arith))

drop-unsets : (m : ℕ) (bs : Bindings) → drop m (unsets m bs) ≡ bs
drop-unsets zero bs = refl
drop-unsets (suc m) bs = drop-unsets m bs

pub unsets-length : (m : ℕ) (bs : Bindings) → length (unsets m bs) ≡ m + length bs
unsets-length zero bs = omega arith
unsets-length (suc m) bs = ap suc (unsets-length m bs) ∙ omega arith

module _ (us : List Term) (o : List Plain) where
  -- unset variables before others: the first of the others stays
  pub completes-past : (k : ℕ) (d : Binding) (bs es : Bindings) → Completes us o k (unsets k (d ∷ bs)) es → bound_to es k ≡ d
  unfolding bound_to
  completes-past zero d bs [] e = absurd (omega (arith, ap length e))
  completes-past zero d bs (x ∷ es) e = ap (λ (z : Bindings). bound_to z zero) e
  completes-past (suc k) d bs [] e = absurd e
  completes-past (suc k) d bs (x ∷ es) e = completes-past k d bs es e.1

  -- where nothing is open from k on, a completion of the first k variables is one of all
  pub completes-all : (k own : ℕ) (fr es : Bindings) → k ≤ own → own ≤ length fr → ((v : ℕ) → k ≤ v → is_open own fr v ≡ false) → Completes us o k fr es → Completes us o own fr es
  completes-all zero own fr es l m n e = subst (Completes us o own fr) (sym e) (completes-self us o own fr m (λ v. n v (omega arith)))
  completes-all (suc k) zero fr es l m n e = absurd (omega arith)
  completes-all (suc k) (suc own) [] es l m n e = absurd e
  completes-all (suc k) (suc own) (b ∷ fr) [] l m n e = absurd e
  completes-all (suc k) (suc own) (b ∷ fr) (d ∷ es) l m n e =
      (e.0, completes-all k own fr es (omega arith) (omega arith) (λ v h. sym (open_next own b fr v) ∙ n (suc v) (omega arith)) e.1)

  -- a completion of unset variables, with what is set in a frame instead: where it has those terms, each variable stands for the same term
  fills-set : (b : Binding) → is_unset b ≡ false → Fills us o b b
  fills-set b n = record { gets = λ u. absurd (false≢true (sym n ∙ u)); stays = λ u. refl }

  fills-open : (b d : Binding) → is_unset b ≡ true → ((i : ℕ) × (d ≡ Candidate i) × (allowed (listed us) o tt i ≡ true)) → Fills us o b d
  fills-open b d y g = record { gets = λ u. g; stays = λ u. absurd (false≢true (sym u ∙ y)) }

  pub completes-set : (k : ℕ) (fr bs es : Bindings) → drop k fr ≡ bs → k ≤ length fr → ((v : ℕ) → v < k → is_unset (bound_to fr v) ≡ false → value_of us es v ≡ meant us (bound_to fr v)) → Completes us o k (unsets k bs) es → (es' : Bindings) × Completes us o k fr es' × Alike us es es'
  unfolding bound_to
  completes-set zero fr bs es q l h e = (fr, refl, λ i. ap (λ (z : Bindings). value_of us z i) (e ∙ sym q))
  completes-set (suc k) [] bs es q l h e = absurd (omega arith)
  completes-set (suc k) (b ∷ fr) bs [] q l h e = absurd e
  completes-set (suc k) (b ∷ fr) bs (d ∷ es) q l h e =
      let (es', c, s) = completes-set k fr bs es q (omega arith) (λ v m. h (suc v) (omega arith)) e.1 in
      go es' c s (is_unset b) refl
    where
      go : (es' : Bindings) → Completes us o k fr es' → Alike us es es' → (x : Bool) → is_unset b ≡ x → (es'' : Bindings) × Completes us o (suc k) (b ∷ fr) es'' × Alike us (d ∷ es) es''
      go es' c s true y = (d ∷ es', (fills-open b d y (e.0.gets unset-unset), c), alike-more us d d es es' refl s)
      go es' c s false y = (b ∷ es', (fills-set b y, c), alike-more us d b es es' (h zero (omega arith) y) s)

  module _ (own : ℕ) (does : Bindings → Bool) where
    -- the variables from k on stay, and so do those that are not open
    pub first-stays : {k : ℕ} {fr ds : Bindings} → FirstFrame us o own does k fr ds → (v : ℕ) → k ≤ v → bound_to ds v ≡ bound_to fr v
    first-stays FirstFrame.whole v l = refl
    first-stays (FirstFrame.set n t) v l = first-stays t v (omega arith)
    first-stays (FirstFrame.tried {k = k} {fr = fr} i u w n t) v l = first-stays t v (omega arith) ∙ set_there k v (Candidate i) fr (λ z. omega arith)

    -- a first completion is one
    pub first-completes : {k : ℕ} {fr ds : Bindings} → length us ≤ 2147483647 → k ≤ own → own ≤ length fr → ((v : ℕ) → k ≤ v → is_open own fr v ≡ false) → FirstFrame us o own does k fr ds → Completes us o own fr ds
    first-completes few l m n (FirstFrame.whole {fr = fr}) = completes-self us o own fr m (λ v. n v (omega arith))
    first-completes few l m n (FirstFrame.set {k = k} {fr = fr} y t) = first-completes few (omega arith) m (open-less own k fr n y) t
    first-completes few l m n (FirstFrame.tried {k = k} {fr = fr} {ds = ds} i u w b t) =
        let below = (open-below own fr k u).1 in
        let c = first-completes few (omega arith) (omega (arith, set_long k (Candidate i) fr)) (open-set own k (Candidate i) fr below (may-set us o i w few) n) t in
        subst (λ (z : Bindings). Completes us o own z ds) (set-open own fr k u) (completes-less us o own k i fr ds (omega arith) w c)

    -- and each variable of it has a number, where those that are set have one
    pub first-numbers : {k : ℕ} {fr ds : Bindings} → k ≤ length fr → ((v : ℕ) → v < k → is_open own fr v ≡ false → (i : ℕ) × (bound_to fr v ≡ Candidate i)) → FirstFrame us o own does k fr ds → (v : ℕ) → v < k → (i : ℕ) × (bound_to ds v ≡ Candidate i)
    first-numbers l h FirstFrame.whole v m = absurd (omega arith)
    first-numbers l h (FirstFrame.set {k = k} {ds = ds} y t) v m = go (eqb v k) refl (λ z. first-numbers (omega arith) (λ i n. h i (omega arith)) t v z)
      where
        go : (e : Bool) → eqb v k ≡ e → (v < k → (i : ℕ) × (bound_to ds v ≡ Candidate i)) → (i : ℕ) × (bound_to ds v ≡ Candidate i)
        go true e f =
            let (i, s) = h k (omega arith) y in
            (i, ap (bound_to ds) (eqb-true v k e) ∙ (first-stays t k (omega arith) ∙ s))
        go false e f = let n = eqb-false v k e in f (omega arith)
    first-numbers l h (FirstFrame.tried {k = k} {fr = fr} {ds = ds} i u w b t) v m =
        go (eqb v k) refl (λ z. first-numbers (omega (arith, set_long k (Candidate i) fr)) still t v z)
      where
        still : (v : ℕ) → v < k → is_open own (set_to k (Candidate i) fr) v ≡ false → (j : ℕ) × (bound_to (set_to k (Candidate i) fr) v ≡ Candidate j)
        still v n y =
            let (j, s) = h v (omega arith) (sym (open-there own k v (Candidate i) fr (λ z. omega arith)) ∙ y) in
            (j, set_there k v (Candidate i) fr (λ z. omega arith) ∙ s)

        go : (e : Bool) → eqb v k ≡ e → (v < k → (i : ℕ) × (bound_to ds v ≡ Candidate i)) → (i : ℕ) × (bound_to ds v ≡ Candidate i)
        go true e f = (i, ap (bound_to ds) (eqb-true v k e) ∙ (first-stays t k (omega arith) ∙ set_here k (Candidate i) fr (omega arith)))
        go false e f = let n = eqb-false v k e in f (omega arith)

    -- nothing is set at first, and then what is forced on one variable after the other
    pub forcing-start : (bs : Bindings) → Forcing us o own does bs (unsets own bs)
    forcing-start bs =
        record { long = unsets-length own bs; others = drop-unsets own bs; forced = λ v m n. absurd (false≢true (sym n ∙ unsets-open own bs v m)) }

    pub forcing-set : {bs fr : Bindings} (v i : ℕ) → v < own → ForcedOn us o does v i → Forcing us o own does bs fr → Forcing us o own does bs (set_to v (Candidate i) fr)
    forcing-set {fr = fr} v i l f F =
        record {
          long = set_long v (Candidate i) fr ∙ F.long;
          others = drop-set own v (Candidate i) fr l ∙ F.others;
          forced = λ x m n. go x m n (eqb x v) refl;
        }
      where
        go : (x : ℕ) → x < own → is_open own (set_to v (Candidate i) fr) x ≡ false → (b : Bool) → eqb x v ≡ b → (j : ℕ) × (bound_to (set_to v (Candidate i) fr) x ≡ Candidate j) × ForcedOn us o does x j
        go x m n true e =
            let same = eqb-true x v e in
            (i, ap (bound_to (set_to v (Candidate i) fr)) same ∙ set_here v (Candidate i) fr (omega (arith, F.long)), subst (λ (y : ℕ). ForcedOn us o does y i) (sym same) f)
        go x m n false e =
            let other = eqb-false x v e in
            let (j, s, g) = F.forced x m (sym (open-there own v x (Candidate i) fr other) ∙ n) in
            (j, set_there v x (Candidate i) fr other ∙ s, g)

-- a frame in the room has the numbers of its first k variables in its last k words, the outermost's lowest
pub path-in : (room : List ℕ) (base n k : ℕ) (ds : Bindings) → bindings_in room base n ≡ ds → k ≤ n → ((v : ℕ) → v < k → (i : ℕ) × (bound_to ds v ≡ Candidate i)) → PathIn room (base + (n - k)) (steps_of k ds)
path-in room base n zero ds q l h = tt
path-in room base n (suc k) ds q l h =
    let (i, s) = h k (omega arith) in
    let word : binding_of (get_or room (base + (n - suc k)) 0) ≡ Candidate i =
    ap (λ (j : ℕ). binding_of (get_or room (base + j) 0)) {x = n - suc k} {y = n - 1 - k} (omega arith) ∙ (sym (bound-in room base n k (omega arith)) ∙ (ap (λ (z : Bindings). bound_to z k) q ∙ s)) in (
      sym (binding-word (get_or room (base + (n - suc k)) 0)) ∙ (ap binding_word word ∙ sym (ap (λ (b : Binding). binding_word (Candidate (number_of b))) s)),
      subst (λ (at : ℕ). PathIn room at (steps_of k ds)) {x = base + (n - k)} {y = base + (n - suc k) + 1} (omega arith) (path-in room base n k ds q (omega arith) (λ v m. h v (omega arith))),
    )

-- it stays where the words from its first on do
pub path-kept : (room after : List ℕ) (at : ℕ) (path : List Step) → ((i : ℕ) → at ≤ i → get_or after i 0 ≡ get_or room i 0) → PathIn room at path → PathIn after at path
path-kept room after at [] k h = tt
path-kept room after at (Step.l ∷ path) k h = absurd h
path-kept room after at (Step.r ∷ path) k h = absurd h
path-kept room after at (Step.n i ∷ path) k h = (k at (omega arith) ∙ h.0, path-kept room after (at + 1) path (λ j l. k j (omega arith)) h.1)

-- what a search that says yes leaves of a frame
pub located : {us : List Term} {left : ℕ} {o : List Plain} {c : Hand Plain} {bs : Bindings} {a : Atom} {own : ℕ} {e : Clause Plain} {bs' fr : Bindings} (room : List ℕ) (base n : ℕ) → own ≤ n → Forcing us o own (passes us left o c bs a e) bs' fr → FirstFrame us o own (passes us left o c bs a e) own fr (bindings_in room base n) → passes us left o c bs a e (bindings_in room base n) ≡ true → Located us left o c bs a own e bs' room (base + (n - own))
located {us} {left} {o} {c} {bs} {a} {own} {e} {fr = fr} room base n l F t p =
    record {
      settled = fr;
      frame = bindings_in room base n;
      forcing = F;
      first = t;
      does = p;
      path = path-in room base n own (bindings_in room base n) refl l (first-numbers us o own (passes us left o c bs a e) (omega (arith, F.long)) (λ v m y. let (i, s, f) = F.forced v m y in (i, s)) t);
    }
