-- The first completion of a clause's frame is the first path through the clause (document 01, "Which strip the search writes": candidates by number, paths compared step by step, lower number first).
-- Crate proving's specs/First against `way` (specs/Chosen), for a clause with no `and` on the way to its head: what the search leaves there may be written without asking again.
use Prim.Native.Nat.{ℕ, suc, ◌+◌, ◌-◌, ◌≤◌, ◌<◌}
use mathlib.Core.Path.{◌≡◌, refl, sym, ◌∙◌, ap, ap₂, subst}
use mathlib.Core.Bool.{Bool, true, false, ◌&&◌, false≢true}
use mathlib.Core.List.{List, [], ◌∷◌}
use mathlib.Core.Option.{Option, some, some-injective}
use native.Mathlib.Omega.{arith}
use lib.ListN.{length, drop}
use Rattle.basics.specs.Choice.{choose, ◌>>=◌, provided, both_true}
use Rattle.harrop.specs.declared.Binding.{Binding}
use Rattle.harrop.specs.declared.Binding.TheVariants.{Candidate}
use Rattle.harrop.specs.Formula.{Term, Atom, Clause, Step}
use Rattle.harrop.specs.Bindings.{Bindings, meant, value_of}
use Rattle.harrop.specs.Place.{Hand, Plain, End, listed, allowed}
use Rattle.room.specs.Frame.{bound_to}
use Rattle.room.proofs.FrameLaws.{bound-means}
use Rattle.mentions.specs.Open.{is_unset, is_open}
use Rattle.proving.specs.Provable.{is_some, candidate_does, through, serves}
use Rattle.proving.specs.Proving.{passes}
use Rattle.proving.specs.Parts.{is_plain, quantifiers, core}
use Rattle.proving.specs.Frames.{alls, set_to, Completes}
use Rattle.proving.specs.First.{FirstFrame, ForcedOn, Forcing, number_of, steps_of, PathIn, Located}
use Rattle.proving.proofs.ProvableLaws.{path-is}
use Rattle.proving.proofs.AlikeLaws.{passes-alike}
use Rattle.proving.proofs.CompletesLaws.{may-below, may-set, open-same, open-not, open-beyond, open-below, open-less, open-set, set_long, set_here, set_there}
use Rattle.proving.proofs.FillingLaws.{refuted, HeadOf, plain-is, plain-has-head, alls-yes}
use Rattle.proving.proofs.FirstLaws.{drop-bound, drop-set_to, completes-past, completes-all, completes-set, first-stays}
use Rattle.drawing.specs.Chosen.{first_yes, stepping, candidate_from, way}
use Rattle.drawing.proofs.ChosenLaws.{path-chosen, way-ends}
use Rattle.drawing.proofs.TakenLaws.{yes-here}
use Rattle.drawing.proofs.FirstLaws.{yes-skip}

-- the first number that answers yes
yes-first : (t : ℕ → Bool) (n j : ℕ) → j < n → t j ≡ true → ((i : ℕ) → i < j → t i ≡ true → ⊥) → first_yes t 0 (n - 0) ≡ some j
yes-first t n j l y b =
    yes-skip t n j j 0 (omega arith) (omega arith) (λ i m. refuted (t i) (b i m))
    ∙ (yes-here t j n l ∙ ap (λ (x : Bool). choose x (some j) (first_yes t (j + 1) (n - (j + 1)))) y)

module _ (us : List Term) (o : List Plain) (try : End Plain → Bool) where
  -- where there is a way, a path ends well
  way-passes : (d : Clause Plain) (bs : Bindings) (path : List Step) (x : End Plain) → way (listed us) o d bs try ≡ some (path, x) → through (listed us) o d bs try ≡ true
  way-passes d bs path x e =
      sym (path-is (listed us) o d bs asked try (λ p y. is (try y)))
      ∙ (ap is_some (path-chosen (listed us) o d bs asked try (λ p y. is (try y)) ∙ ap (λ (w : Option (List Step × End Plain)). w >>= λ y. asked y.0 y.1) e)
      ∙ (is (try x) ∙ way-ends (listed us) o d bs try path x e))
    where
      asked : List Step → End Plain → Option (Unit {0})
      asked path x = provided (try x) (some tt)

      is : (b : Bool) → is_some {A = Unit {0}} (provided b (some tt)) ≡ b
      is true = refl
      is false = refl

  -- one step of a way: the candidate does, and none before it
  way_step : (q : Plain) (d : Clause Plain) (bs : Bindings) (i : ℕ) (path : List Step) (x : End Plain) → allowed (listed us) o tt i ≡ true
      → ((j : ℕ) → j < i → allowed (listed us) o tt j ≡ true → through (listed us) o d (Candidate j ∷ bs) try ≡ true → ⊥)
      → way (listed us) o d (Candidate i ∷ bs) try ≡ some (path, x) → way (listed us) o (Clause.all_d q d) bs try ≡ some (Step.n i ∷ path, x)
  unfolding way candidate_from candidate_does
  way_step q d bs i path x w b e =
      ap (λ (m : Option ℕ). m >>= λ j. stepping (Step.n j) (way (listed us) o d (Candidate j ∷ bs) try))
      (yes-first (candidate_does (listed us) o q (λ j. through (listed us) o d (Candidate j ∷ bs) try)) (length us) i (may-below us o i w) (ap₂ ◌&&◌ w (way-passes d (Candidate i ∷ bs) path x e))
      (λ j l y. let (u, v) = both_true (allowed (listed us) o q j) (through (listed us) o d (Candidate j ∷ bs) try) y in b j l u v))
      ∙ ap (stepping (Step.n i)) e

  -- a way of no step
  way_end : (e : Clause Plain) (b : Atom) (ds : Bindings) → HeadOf e b → through (listed us) o e ds try ≡ true → (x : End Plain) × (way (listed us) o e ds try ≡ some ([], x))
  unfolding way through
  way_end (Clause.atom_d b') b ds h p = (End.at_atom b' ds, ap (λ (t : Bool). provided t (some ([], End.at_atom b' ds))) p)
  way_end (Clause.imp_d g b') b ds h p = (End.at_imp g b' ds, ap (λ (t : Bool). provided t (some ([], End.at_imp g b' ds))) p)
  way_end (Clause.all_d q d) b ds h p = absurd h
  way_end (Clause.and_d d d') b ds h p = absurd h

module _ (us : List Term) (left : ℕ) (o : List Plain) (c : Hand Plain) (bs₀ : Bindings) (a : Atom) (e : Clause Plain) (few : length us ≤ 2147483647) where
  abbrev try : End Plain → Bool
  try = serves (listed us) left o c bs₀ a

  abbrev does : Bindings → Bool
  does = passes us left o c bs₀ a e

  -- the way through so many quantifiers, from a frame in which the variables around are set
  abbrev Leads : ℕ → Bindings → Bindings → Type 0
  Leads k bs ds = (x : End Plain) × (way (listed us) o (alls k e) bs try ≡ some (steps_of k ds, x))

  -- by the number of its outermost variable, and the way from there on
  leads-by : (k i : ℕ) (bs fr ds : Bindings) → allowed (listed us) o tt i ≡ true → ((j : ℕ) → j < i → allowed (listed us) o tt j ≡ true → passes us left o c bs₀ a (alls k e) (Candidate j ∷ bs) ≡ true → ⊥)
      → fr ≡ Candidate i ∷ bs → bound_to ds k ≡ Candidate i → Leads k fr ds → Leads (suc k) bs ds
  leads-by k i bs fr ds w b q s (x, y) =
      (x, way_step us o try tt (alls k e) bs i (steps_of k ds) x w b (ap (λ (z : Bindings). way (listed us) o (alls k e) z try) (sym q) ∙ y) ∙ ap (λ (z : Binding). some (Step.n (number_of z) ∷ steps_of k ds, x)) (sym s))

  -- no candidate below the one that is forced does, since it would be the same term
  none-lower : (k i j : ℕ) (bs : Bindings) → ForcedOn us o does k i → j < i → passes us left o c bs₀ a (alls k e) (Candidate j ∷ bs) ≡ true → ⊥
  none-lower k i j bs f l y =
      let (es, m, p) = alls-yes us left o c bs₀ a k e (Candidate j ∷ bs) y in
      f.lowest j l (sym (ap (meant us) (completes-past us o k (Candidate j) bs es m)) ∙ (bound-means us es k ∙ f.only es p))

  module _ (own : ℕ) (bs fr₀ : Bindings) (F : Forcing us o own does bs fr₀) where
    -- no candidate before the one that was found does: what does could be completed with what is forced
    none_before : (k j : ℕ) (fr : Bindings) → is_open own fr k ≡ true → ((v : ℕ) → v < k → bound_to fr v ≡ bound_to fr₀ v) → ((v : ℕ) → k < v → is_open own fr v ≡ false) → own ≤ length fr
        → allowed (listed us) o tt j ≡ true → ((es : Bindings) → Completes us o own (set_to k (Candidate j) fr) es → does es ≡ false) → passes us left o c bs₀ a (alls k e) (Candidate j ∷ drop (suc k) fr) ≡ true → ⊥
    none_before k j fr u below above m w n y =
        let (l, l') = open-below own fr k u in
        let (es, done, p) = alls-yes us left o c bs₀ a k e (Candidate j ∷ drop (suc k) fr) y in
        let long = set_long k (Candidate j) fr in
        let (es', done', same) = completes-set us o k (set_to k (Candidate j) fr) (Candidate j ∷ drop (suc k) fr) es (drop-set_to k (Candidate j) fr l') (omega arith) (forced es p l) done in
        let none = n es' (completes-all us o k own (set_to k (Candidate j) fr) es' (omega arith) (omega arith) (open-set own k (Candidate j) fr l' (may-set us o j w few) above) done') in
        false≢true (sym none ∙ (sym (passes-alike (listed us) left o c a bs₀ e es es' same) ∙ p))
      where
        forced : (es : Bindings) → does es ≡ true → k < own → (v : ℕ) → v < k → is_unset (bound_to (set_to k (Candidate j) fr) v) ≡ false → value_of us es v ≡ meant us (bound_to (set_to k (Candidate j) fr) v)
        forced es p l v h s =
            let there = set_there k v (Candidate j) fr (λ z. omega arith) ∙ below v h in
            let (i, q, f) = F.forced v (omega arith) (open-not own fr₀ v (sym (ap is_unset there) ∙ s)) in
            f.only es p ∙ ap (meant us) (sym (there ∙ q))

    -- from the outermost variable in
    first-leads : (b : Atom) → HeadOf e b → {k : ℕ} {fr ds : Bindings} → k ≤ own → own ≤ length fr → ((v : ℕ) → v < k → bound_to fr v ≡ bound_to fr₀ v) → ((v : ℕ) → k ≤ v → is_open own fr v ≡ false) → does ds ≡ true
        → FirstFrame us o own does k fr ds → Leads k (drop k fr) ds
    first-leads b h l m below above p (FirstFrame.whole {fr = fr}) = way_end us o try e b fr h p
    first-leads b h l m below above p (FirstFrame.set {k = k} {fr = fr} {ds = ds} y t) =
        let here = below k (omega arith) in
        let (i, q, f) = F.forced k (omega arith) (sym (open-same own fr fr₀ k here) ∙ y) in
        leads-by k i (drop (suc k) fr) (drop k fr) ds f.may (λ j n w. none-lower k i j (drop (suc k) fr) f n)
        (drop-bound k fr (omega arith) ∙ ap (λ (z : Binding). z ∷ drop (suc k) fr) (here ∙ q))
        (first-stays us o own does t k (omega arith) ∙ (here ∙ q))
        (first-leads b h (omega arith) m (λ v n. below v (omega arith)) (open-less own k fr above y) p t)
    first-leads b h l m below above p (FirstFrame.tried {k = k} {fr = fr} {ds = ds} i u w n t) =
        let (z, z') = open-below own fr k u in
        let long = set_long k (Candidate i) fr in
        leads-by k i (drop (suc k) fr) (drop k (set_to k (Candidate i) fr)) ds w (λ j s v. none_before k j fr u (λ x r. below x (omega arith)) (λ x r. above x (omega arith)) m v (n j s v))
        (drop-set_to k (Candidate i) fr z')
        (first-stays us o own does t k (omega arith) ∙ set_here k (Candidate i) fr z')
        (first-leads b h (omega arith) (omega arith) (λ v r. set_there k v (Candidate i) fr (λ x. omega arith) ∙ below v (omega arith)) (open-set own k (Candidate i) fr z' (may-set us o i w few) (λ x r. above x (omega arith))) p t)

  -- the first completion of the frame in which what is forced is set is the first path
  pub located-way : (b : Atom) (own : ℕ) (bs fr ds : Bindings) → HeadOf e b → Forcing us o own does bs fr → FirstFrame us o own does own fr ds → does ds ≡ true → (x : End Plain) × (way (listed us) o (alls own e) bs try ≡ some (steps_of own ds, x))
  located-way b own bs fr ds h F t p =
      subst (λ (z : Bindings). Leads own z ds) F.others (first-leads own bs fr F b h (omega arith) (omega (arith, F.long)) (λ v l. refl) (open-beyond own fr) p t)

-- what is in the room is the first path
pub located-path : {us : List Term} {left : ℕ} {o : List Plain} {c : Hand Plain} {bs : Bindings} {a : Atom} {bs' : Bindings} {room : List ℕ} {at : ℕ} {path : List Step} {x : End Plain} (d : Clause Plain) → length us ≤ 2147483647 → is_plain d ≡ true → Located us left o c bs a (quantifiers d) (core d) bs' room at → way (listed us) o d bs' (serves (listed us) left o c bs a) ≡ some (path, x) → PathIn room at path
located-path {us} {left} {o} {c} {bs} {a} {bs'} {room} {at} {path} {x} d few plain L e =
    let (b, h) = plain-has-head d plain in
    let (y, w) = located-way us left o c bs a (core d) few b (quantifiers d) bs' L.settled L.frame h L.forcing L.first L.does in
    let same = sym w ∙ (ap (λ (z : Clause Plain). way (listed us) o z bs' (serves (listed us) left o c bs a)) (plain-is d plain) ∙ e) in
    subst (PathIn room at) (ap (λ (z : List Step × End Plain). z.0) (some-injective (steps_of (quantifiers d) L.frame, y) (path, x) same)) L.path
