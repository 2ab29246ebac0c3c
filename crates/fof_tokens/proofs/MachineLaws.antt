-- The machine finds the longest piece that its state allows, or knows that there is none; and where a rule can first end.
use Prim.Native.Nat.{ℕ, zero, suc, ◌+◌, ◌<◌, ◌≤◌}
use mathlib.Core.Path.{◌≡◌, refl, sym, ◌∙◌, ap, subst}
use mathlib.Core.Bool.{Bool, true, false, false≢true}
use mathlib.Core.List.{List, [], ◌∷◌}
use mathlib.Core.Option.{Option, none, some, some-injective}
use mathlib.Core.Logic.{◌⊎◌, inl, inr, ⊎_elim}
use native.Mathlib.Omega.{arith}
use lib.ListN.{length, take}
use Rattle.basics.specs.Choice.{choose, nope}
use Rattle.fof_tokens.specs.Rule.{Rule, never, empty, byte, ◌▸◌, ◌∣◌, many, ◌by◌}
use Rattle.fof_tokens.specs.Machine.{may_end, after, Sort, Row, keep, step, ended, note, scan, soonest}
use Rattle.fof_tokens.proofs.RuleLaws.{end_by, by_end, after-by, by_after}

-- a row of the state allows these bytes, as such a piece
abbrev pub In : List Row → Sort → List ℕ → Type 0
In [] s w = ⊥
In (x ∷ q) s w = ((x.0 ≡ s) × (w by x.1)) ⊎ In q s w

keep-in : (s : Sort) (r : Rule) (q : List Row) (s' : Sort) (w : List ℕ) → ((s ≡ s') × (w by r)) ⊎ In q s' w → In (keep s r q) s' w
keep-in s never q s' w (inl h) = absurd h.1
keep-in s never q s' w (inr h) = h
keep-in s empty q s' w h = h
keep-in s (byte t) q s' w h = h
keep-in s (r ▸ r') q s' w h = h
keep-in s (r ∣ r') q s' w h = h
keep-in s (many r) q s' w h = h

in-keep : (s : Sort) (r : Rule) (q : List Row) (s' : Sort) (w : List ℕ) → In (keep s r q) s' w → ((s ≡ s') × (w by r)) ⊎ In q s' w
in-keep s never q s' w h = inr h
in-keep s empty q s' w h = h
in-keep s (byte t) q s' w h = h
in-keep s (r ▸ r') q s' w h = h
in-keep s (r ∣ r') q s' w h = h
in-keep s (many r) q s' w h = h

-- one byte more
pub step_in : (c : ℕ) (q : List Row) (s : Sort) (w : List ℕ) → In q s (c ∷ w) → In (step c q) s w
step_in c [] s w h = h
step_in c (x ∷ q) s w (inl (e, h)) = keep-in x.0 (after c x.1) (step c q) s w (inl (e, after-by c x.1 w h))
step_in c (x ∷ q) s w (inr h) = keep-in x.0 (after c x.1) (step c q) s w (inr (step_in c q s w h))

pub in_step : (c : ℕ) (q : List Row) (s : Sort) (w : List ℕ) → In (step c q) s w → In q s (c ∷ w)
in_step c [] s w h = h
in_step c (x ∷ q) s w h = ⊎_elim
    (λ p. inl (p.0, by_after c x.1 w p.1))
    (λ p. inr (in_step c q s w p))
    (in-keep x.0 (after c x.1) (step c q) s w h)

-- no byte more
pub ended-in : (q : List Row) (s : Sort) → ended q ≡ some s → In q s []
ended-in [] s e = nope e
ended-in (x ∷ q) s e = go (may_end x.1) refl e (λ f. ended-in q s f)
  where
    go : (b : Bool) → may_end x.1 ≡ b → choose b (some x.0) (ended q) ≡ some s → (ended q ≡ some s → In q s []) → In (x ∷ q) s []
    go true m f ih = inl (some-injective x.0 s f, end_by x.1 m)
    go false m f ih = inr (ih f)

pub not-ended : (q : List Row) (s : Sort) → ended q ≡ none → In q s [] → ⊥
not-ended [] s e h = h
not-ended (x ∷ q) s e (inl h) =
    nope (sym (subst (λ (b : Bool). choose b (some x.0) (ended q) ≡ none) (by_end x.1 h.1) e))
not-ended (x ∷ q) s e (inr h) = go (may_end x.1) e (λ f. not-ended q s f h)
  where
    go : (b : Bool) → choose b (some x.0) (ended q) ≡ none → (ended q ≡ none → ⊥) → ⊥
    go true f ih = nope (sym f)
    go false f ih = ih f

-- the longest of what the state allows at the head of the text has n bytes
pub record Stands (q : List Row) (t : List ℕ) (s : Sort) (n : ℕ) : Type 0 where
  pub within : n ≤ length t
  pub is : In q s (take n t)
  pub longest : (s' : Sort) (m : ℕ) → m ≤ length t → In q s' (take m t) → m ≤ n

-- the state allows nothing at the head of the text
abbrev pub Nothing : List Row → List ℕ → Type 0
Nothing q t = (s : Sort) (m : ℕ) → m ≤ length t → In q s (take m t) → ⊥

-- the state allows no more than the empty string at the head of the text
abbrev AtMostEmpty : List Row → List ℕ → Type 0
AtMostEmpty q t = (s : Sort) (m : ℕ) → suc m ≤ length t → In q s (take (suc m) t) → ⊥

abbrev pub Told : List Row → ℕ → Option (Sort × ℕ) → List ℕ → Option (Sort × ℕ) → Type 0
Told q at last t r =
    ((r ≡ last) × Nothing q t) ⊎ ((s : Sort) × (n : ℕ) × (r ≡ some (s, at + n)) × Stands q t s n)

-- the state may end here, or not, and nothing longer is there
here : (q : List Row) (at : ℕ) (last : Option (Sort × ℕ)) (t : List ℕ) → AtMostEmpty q t → Told q at last t (note (ended q) at last)
here q at last t none-longer = go (ended q) refl
  where
    never_ends : ended q ≡ none → Nothing q t
    never_ends e s zero h i = not-ended q s e i
    never_ends e s (suc m) h i = none-longer s m h i

    at_most : (s : Sort) (m : ℕ) → m ≤ length t → In q s (take m t) → m ≤ 0
    at_most s zero h i = omega arith
    at_most s (suc m) h i = absurd (none-longer s m h i)

    go : (o : Option Sort) → ended q ≡ o → Told q at last t (note o at last)
    go none e = inl (refl, never_ends e)
    go (some s) e = inr (
      s,
      0,
      ap (λ (x : ℕ). some (s, x)) {x = at} {y = at + 0} (omega arith),
      record { within = omega arith; is = ended-in q s e; longest = at_most },
    )

-- after one byte more something stands, or nothing does
told_more : (q : List Row) (at : ℕ) (last : Option (Sort × ℕ)) (c : ℕ) (w : List ℕ) (r : Option (Sort × ℕ)) →
    Told (step c q) (at + 1) (note (ended q) at last) w r → Told q at last (c ∷ w) r
told_more q at last c w r (inr (s, n, e, h)) = inr (
  s,
  suc n,
  e ∙ ap (λ (x : ℕ). some (s, x)) {x = at + 1 + n} {y = at + suc n} (omega arith),
  record { within = up; is = in_step c q s (take n w) h.is; longest = most },
)
  where
    up : suc n ≤ length (c ∷ w)
    up = let z = h.within in omega arith

    most : (s' : Sort) (m : ℕ) → m ≤ length (c ∷ w) → In q s' (take m (c ∷ w)) → m ≤ suc n
    most s' zero b i = omega arith
    most s' (suc m) b i = let z = h.longest s' m (omega arith) (step_in c q s' (take m w) i) in omega arith
told_more q at last c w r (inl (e, nothing)) =
    subst (λ (x : Option (Sort × ℕ)). Told q at last (c ∷ w) x) (sym e)
    (here q at last (c ∷ w) (λ s m b i. nothing s m (omega arith) (step_in c q s (take m w) i)))

pub scan-told : (q : List Row) (at : ℕ) (last : Option (Sort × ℕ)) (t : List ℕ) → Told q at last t (scan q at last t)
unfolding scan
scan-told q at last [] = here q at last [] (λ s m h i. absurd (omega arith))
scan-told q at last (c ∷ w) =
    told_more q at last c w (scan (step c q) (at + 1) (note (ended q) at last) w) (scan-told (step c q) (at + 1) (note (ended q) at last) w)

-- where what the rule allows first ends: after n bytes, and not before
pub record First (r : Rule) (t : List ℕ) (n : ℕ) : Type 0 where
  pub within : n ≤ length t
  pub is : take n t by r
  pub shortest : (m : ℕ) → m < n → take m t by r → ⊥

abbrev pub FirstTold : Rule → ℕ → List ℕ → Option ℕ → Type 0
FirstTold r at t none = (m : ℕ) → m ≤ length t → take m t by r → ⊥
FirstTold r at t (some e) = (n : ℕ) × (e ≡ at + n) × First r t n

first-here : (r : Rule) (at : ℕ) (t : List ℕ) → may_end r ≡ true → FirstTold r at t (some at)
first-here r at t e = (0, omega arith, record { within = omega arith; is = end_by r e; shortest = λ m h. absurd (omega arith) })

first_more : (r : Rule) (at c : ℕ) (w : List ℕ) (o : Option ℕ) → may_end r ≡ false →
    FirstTold (after c r) (at + 1) w o → FirstTold r at (c ∷ w) o
first_more r at c w none m h = go
  where
    go : (n : ℕ) → n ≤ length (c ∷ w) → take n (c ∷ w) by r → ⊥
    go zero b i = false≢true (sym m ∙ by_end r i)
    go (suc n) b i = h n (omega arith) (after-by c r (take n w) i)
first_more r at c w (some e) m (n, q, h) =
    (suc n, q ∙ omega arith, record { within = up; is = by_after c r (take n w) h.is; shortest = least })
  where
    up : suc n ≤ length (c ∷ w)
    up = let z = h.within in omega arith

    least : (k : ℕ) → k < suc n → take k (c ∷ w) by r → ⊥
    least zero b i = false≢true (sym m ∙ by_end r i)
    least (suc k) b i = h.shortest k (omega arith) (after-by c r (take k w) i)

pub soonest-told : (r : Rule) (at : ℕ) (t : List ℕ) → FirstTold r at t (soonest r at t)
unfolding soonest
soonest-told r at [] = go (may_end r) refl
  where
    no_end : may_end r ≡ false → (m : ℕ) → m ≤ 0 → take {A = ℕ} m [] by r → ⊥
    no_end e zero h i = false≢true (sym e ∙ by_end r i)
    no_end e (suc m) h i = absurd (omega arith)

    go : (b : Bool) → may_end r ≡ b → FirstTold r at [] (choose b (some at) none)
    go true e = first-here r at [] e
    go false e = no_end e
soonest-told r at (c ∷ w) = go (may_end r) refl (soonest-told (after c r) (at + 1) w)
  where
    go : (b : Bool) → may_end r ≡ b → FirstTold (after c r) (at + 1) w (soonest (after c r) (at + 1) w) →
        FirstTold r at (c ∷ w) (elim b as (λ x. Option ℕ) [ true ↦ some at | false ↦ soonest (after c r) (at + 1) w ])
    go true e h = first-here r at (c ∷ w) e
    go false e h = first_more r at c w (soonest (after c r) (at + 1) w) e h
