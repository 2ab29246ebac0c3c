-- The first candidate for a `some`, as the search of the whole chain leaves it on top of the stack (document 01, "Which strip the search writes": the first option that has a proof, candidates by number).
-- The first completion of the chain's frame, the outermost variable first, begins with the first candidate with which the part has a proof. Each last law ends in the contract of `first_with`.
use Prim.Native.Nat.{ℕ, zero, suc, ◌+◌, ◌-◌, ◌≤◌, ◌<◌}
use native.Mathlib.Omega.{arith}
use mathlib.Core.Path.{◌≡◌, refl, sym, ◌∙◌, ap}
use mathlib.Core.Bool.{Bool, true, false, ◌&&◌, false≢true}
use mathlib.Core.List.{List, [], ◌∷◌}
use mathlib.Core.Option.{Option, some, some-injective}
use lib.Dec.{ltb}
use lib.ListN.{length, get_or}
use borrow.Author.Tests.{ltb-true, ltb-false}
use Rattle.basics.specs.Choice.{choose, ◌>>=◌, both_true, bind-some}
use Rattle.harrop.specs.declared.Binding.{Binding}
use Rattle.harrop.specs.declared.Binding.TheVariants.{Candidate}
use Rattle.harrop.specs.Formula.{Term, Goal, Clause, Step}
use Rattle.harrop.specs.Bindings.{Bindings}
use Rattle.harrop.specs.Place.{Hand, Plain, End, listed, allowed}
use Rattle.packet.specs.declared.Word.TheVariants as W
use Rattle.room.specs.Frame.{binding_word, binding_of, bindings_in, bound_to}
use Rattle.room.specs.Files.{Files}
use Rattle.room.specs.declared.Where.{Where}
use Rattle.room.proofs.FrameLaws.{word-binding, bound-in}
use Rattle.heads.specs.Heads.{goal_word}
use Rattle.proving.specs.Provable.{any_from, candidate_does, candidates_from, through, provable}
use Rattle.proving.specs.Proving.{ProvingAs, proves_with, passes}
use Rattle.proving.specs.Chain.{chain, inside, headless}
use Rattle.proving.specs.Frames.{alls}
use Rattle.proving.specs.First.{number_of, steps_of, Located}
use Rattle.proving.specs.Filling.{LocatingSome}
use Rattle.proving.proofs.ChainLaws.{chain-is, chain-low}
use Rattle.proving.proofs.FillingLaws.{any_of}
use Rattle.drawing.specs.Chosen.{first_yes, stepping, candidate_from, way}
use Rattle.drawing.specs.Writing.{FirstWith}
use Rattle.drawing.proofs.LocatedLaws.{located-way}
use Rattle.drawing.proofs.PathingLaws.{yes-does, chosen-below}

-- the number that a path begins with
abbrev front : List Step → ℕ
front [] = 0
front (Step.l ∷ path) = 0
front (Step.r ∷ path) = 0
front (Step.n i ∷ path) = i

-- the way into the clause of an `all` begins with the candidate that is chosen
way-front : (us : List Term) (o : List Plain) (q : Plain) (d : Clause Plain) (bs : Bindings) (try : End Plain → Bool) (m i : ℕ) (rest : List Step) (x : End Plain) → way (listed us) o (Clause.all_d q d) bs try ≡ some (Step.n m ∷ rest, x) → candidate_from (listed us) o q (λ j. through (listed us) o d (Candidate j ∷ bs) try) 0 ≡ some i → m ≡ i
unfolding way
way-front us o q d bs try m i rest x h e =
    let s = sym (ap (λ (y : Option ℕ). y >>= λ j. stepping (Step.n j) (way (listed us) o d (Candidate j ∷ bs) try)) e) ∙ h in
    let (a, k, z) = bind-some (way (listed us) o d (Candidate i ∷ bs) try) (λ y. some (Step.n i ∷ y.0, y.1)) (Step.n m ∷ rest, x) s in
    sym (ap (λ (y : List Step × End Plain). front y.0) (some-injective (Step.n i ∷ a.0, a.1) (Step.n m ∷ rest, x) z))

-- the first number by two tests that say the same
yes-same : (t t' : ℕ → Bool) → ((i : ℕ) → t i ≡ t' i) → (i n : ℕ) → first_yes t i n ≡ first_yes t' i n
unfolding first_yes
yes-same t t' e i zero = refl
yes-same t t' e i (suc n) = ap (λ (b : Bool). choose b (some i) (first_yes t (suc i) n)) (e i) ∙ ap (choose (t' i) (some i)) (yes-same t t' e (suc i) n)

module _ (us : List Term) (left : ℕ) (o : List Plain) (c : Hand Plain) (bs : Bindings) (q : Plain) (g : Goal Plain) (i : ℕ) (e : candidate_from (listed us) o q (proves_with us left o c bs g) 0 ≡ some i) where
  -- the candidate that is chosen does
  does : candidate_does (listed us) o q (proves_with us left o c bs g) i ≡ true
  unfolding candidate_from
  does = yes-does (candidate_does (listed us) o q (proves_with us left o c bs g)) 0 (length us - 0) i e

  -- so the `some` has a proof, and what is left of the height is more than the quantifiers inside
  some-does : provable (listed us) (suc left) o c bs (Goal.some q g) ≡ true
  unfolding provable candidates_from
  some-does = let l = chosen-below us o q (proves_with us left o c bs g) i e in any_of (candidate_does (listed us) o q (proves_with us left o c bs g)) 0 (length us - 0) i (omega arith) (omega arith) does

  high : chain g < left
  unfolding candidate_does
  high = go (ltb (chain g) left) refl
    where
      go : (b : Bool) → ltb (chain g) left ≡ b → chain g < left
      go true h = ltb-true (chain g) left h
      go false h = absurd (false≢true (sym (chain-low us o c left g (Candidate i ∷ bs) (ltb-false (chain g) left h)) ∙ (both_true (allowed (listed us) o q i) (proves_with us left o c bs g i) does).1))

  -- and the first completion of the chain's frame begins with it
  some_number : (room : List ℕ) (at : ℕ) → length us ≤ 2147483647 → Located us (suc left - suc (chain g)) o c bs headless (suc (chain g)) (Clause.imp_d (inside g) headless) bs room at → get_or room at 0 ≡ binding_word (Candidate i)
  unfolding candidate_from candidate_does
  some_number room at few L =
      let inner = suc left - suc (chain g) in
      let core = Clause.imp_d (inside g) headless in
      let (x, h) = located-way us inner o c bs headless core few headless (suc (chain g)) bs L.settled L.frame refl L.forcing L.first L.does in
      let same = yes-same (candidate_does (listed us) o tt (λ j. passes us inner o c bs headless (alls (chain g) core) (Candidate j ∷ bs))) (candidate_does (listed us) o q (proves_with us left o c bs g))
      (λ j. ap (λ (b : Bool). allowed (listed us) o tt j && b) (chain-is us inner o c bs left g (Candidate j ∷ bs) (omega (arith, high)))) 0 (length us - 0) in
      let number = way-front us o tt (alls (chain g) core) bs _ (number_of (bound_to L.frame (chain g))) i (steps_of (chain g) L.frame) x h (same ∙ e) in
      L.path.0 ∙ ap (λ (j : ℕ). binding_word (Candidate j)) number

module _ {f : Files} {room after : List ℕ} {w : Where} {left : ℕ} {s : Bool} (p : ProvingAs W.Some f room after w left s) where
  -- there is none
  pub with_none : s ≡ false → FirstWith f room after w left 0
  unfolding goal_word
  with_none n ds us o c bs q g i r e =
      let a = p ds us o c bs (Goal.some q g) refl r in
      record { kept = a.kept; done = absurd (false≢true (sym n ∙ (a.answer ∙ some-does us left o c bs q g i e))) }

  -- it stands on top of the stack
  pub with-left : {b : Binding} {j : ℕ} → s ≡ true → (s ≡ true → LocatingSome f room after w left) → b ≡ bound_to (bindings_in after w.top 1) 0 → j ≡ number_of b → FirstWith f room after w left j
  unfolding goal_word
  with-left y L h k ds us o c bs q g i r e =
      let a = p ds us o c bs (Goal.some q g) refl r in
      let few : length us ≤ 2147483647 = omega (arith, r.place.booked.candidates.few) in
      let there = some_number us left o c bs q g i e after w.top few (L y ds us o c bs (Goal.some q g) refl r) in
      let word = ap (λ (n : ℕ). binding_of (get_or after n 0)) {x = w.top + (1 - 1 - 0)} {y = w.top} (omega arith) ∙ (ap binding_of there ∙ word-binding (Candidate i)) in
      record { kept = a.kept; done = k ∙ ap number_of (h ∙ (bound-in after w.top 1 0 (omega arith) ∙ word)) }
