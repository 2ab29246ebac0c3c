-- The machine accepts exactly what the grammar derives: for every grammar whose sets pass the test, and for every row of tokens.
-- A step of it, for whoever runs one: on a token, and on a name.
use Prim.Native.Nat.{ℕ, zero, suc, ◌+◌, ◌*◌, ◌≤◌, ◌<◌}
use mathlib.Core.Path.{◌≡◌, refl, sym, ◌∙◌, ap, subst}
use mathlib.Core.Bool.{Bool, true, false, false≢true}
use mathlib.Core.Logic.{◌⊎◌, inl, inr, ⊎_elim}
use mathlib.Core.List.{List, [], ◌∷◌, ◌++◌}
use mathlib.Core.Option.{Option, none, some, some-injective}
use native.Mathlib.Omega.{arith}
use native.Mathlib.Nat.{mul-suc}
use lib.Dec.{eqb, ltb}
use lib.ListN.{length, length-append}
use borrow.Author.Tests.{eqb-true, eq-eqb, ltb-true, leb-true}
use Rattle.basics.specs.Choice.{choose, both_true, nope}
use Rattle.basics.specs.Tells.{Tells}
use Rattle.grammar.specs.Derives.{Symbol, the, any, Has, Derives, end, token, choice}
use Rattle.grammar.specs.Machine.{Grammar, has, apart, ahead, starts, gone, expected, first_of, chosen, run, accepts, due, right_all, clear, distinct, right}
use Rattle.grammar.proofs.Sets.{true-false, not-and, has_left, has_right, has_chosen, has-true, true-has, apart-has}
use Rattle.grammar.proofs.Ahead.{first-append, right-at, first, Fits, fits-choice}

module _ {T N : Type 0} (G : Grammar T N) where
  -- what is chosen is an alternative
  pub chosen-has : (m : N) (d : Option T) (xs : List (List (Symbol T N))) (alt : List (Symbol T N)) → first_of G m d xs ≡ some alt → Has xs alt
  chosen-has m d [] alt e = nope e
  chosen-has m d (x ∷ xs) alt e = go (has G (expected G m x) d) e (λ h. chosen-has m d xs alt h)
    where
      go : (b : Bool) → choose b (some x) (first_of G m d xs) ≡ some alt → (first_of G m d xs ≡ some alt → Has xs alt) → (x ≡ alt) ⊎ Has xs alt
      go true h f = inl (some-injective x alt h)
      go false h f = inr (f h)

  -- what a derivation comes from, by what is on top of the stack and ahead
  abbrev Back : List (Symbol T N) → List T → Type 0
  Back [] [] = Unit {0}
  Back [] (c ∷ w) = ⊥
  Back (the a ∷ ss) [] = ⊥
  Back (the a ∷ ss) (c ∷ w) = (a ≡ c) × Derives G.alternatives ss w
  Back (any m ∷ ss) w = (alt : List (Symbol T N)) × Has (G.alternatives m) alt × Derives G.alternatives (alt ++ ss) w

  pub back : {ss : List (Symbol T N)} {w : List T} → Derives G.alternatives ss w → Back ss w
  back end = tt
  back (token t) = (refl, t)
  back (choice alt a t) = (alt, a, t)

  -- the steps of a derivation
  abbrev pub steps : {ss : List (Symbol T N)} {w : List T} → Derives G.alternatives ss w → ℕ
  steps end = 0
  steps (token t) = suc (steps t)
  steps (choice alt a t) = suc (steps t)

  due-append : (s : Symbol T N) (xs ss : List (Symbol T N)) → due G (s ∷ (xs ++ ss)) ≡ due G (s ∷ xs) + length ss
  due-append s xs ss = let h = length-append xs ss in omega arith

  module _ (once : (a b : T) → G.code a ≡ G.code b → a ≡ b) (rightly : (m : N) → right G m ≡ true) where
    -- the sets of two alternatives have no token in common, so the first that has the token is the one
    clear-not : (m : N) (x alt : List (Symbol T N)) (ys : List (List (Symbol T N))) (d : Option T) → clear G m x ys ≡ true → Has ys alt → Has (expected G m x) d → Has (expected G m alt) d → ⊥
    clear-not m x alt [] d e a h g = a
    clear-not m x alt (y ∷ ys) d e (inl q) h g =
        apart-has G once (expected G m x) (expected G m y) d (both_true (apart G (expected G m x) (expected G m y)) _ e).0 h
        (subst (λ (z : List (Symbol T N)). Has (expected G m z) d) (sym q) g)
    clear-not m x alt (y ∷ ys) d e (inr a) h g = clear-not m x alt ys d (both_true (apart G (expected G m x) (expected G m y)) _ e).1 a h g

    first-is : (m : N) (xs : List (List (Symbol T N))) (alt : List (Symbol T N)) (d : Option T) → distinct G m xs ≡ true → Has xs alt → Has (expected G m alt) d → first_of G m d xs ≡ some alt
    first-is m [] alt d e a h = absurd a
    first-is m (x ∷ xs) alt d e a h = go (has G (expected G m x) d) refl a (λ b. first-is m xs alt d (both_true (clear G m x xs) _ e).1 b h)
      where
        go : (b : Bool) → has G (expected G m x) d ≡ b → (x ≡ alt) ⊎ Has xs alt → (Has xs alt → first_of G m d xs ≡ some alt) → choose b (some x) (first_of G m d xs) ≡ some alt
        go true q (inl p) f = ap some p
        go true q (inr b) f = absurd (clear-not m x alt xs d (both_true (clear G m x xs) _ e).0 b (has-true G once (expected G m x) d q) h)
        go false q (inl p) f = absurd (true-false (true-has G once (expected G m x) d (subst (λ (z : List (Symbol T N)). Has (expected G m z) d) (sym p) h)) q)
        go false q (inr b) f = f b

    -- the token ahead of what an alternative and the stack derive is one that decides for it
    foreseen : (m : N) (alt ss : List (Symbol T N)) (w : List T) → Fits G once rightly (any m ∷ ss) → Has (G.alternatives m) alt → Derives G.alternatives (alt ++ ss) w → Has (expected G m alt) (ahead G (G.looks m) w)
    foreseen m alt ss w f a t = go (G.looks m) refl
      where
        go : (v : Bool) → G.looks m ≡ v → Has (starts G v alt ++ choose (gone G v alt) (G.follows m) []) (ahead G v w)
        go true e =
            ⊎_elim (λ h. has_left (starts G true alt) _ (ahead G true w) h) (λ h. absurd (not-and (G.looks m) (gone G true alt) (right-at G m alt (rightly m) a).seen e h.0))
            (first-append G true alt ss (ahead G true w) (first G once rightly true (alt ++ ss) w t))
        go false e =
            ⊎_elim (λ h. has_left (starts G false alt) _ (ahead G false w) h) (λ h. has_right (starts G false alt) _ (ahead G false w) (has_chosen (gone G false alt) (G.follows m) (ahead G false w) h.0 (f.0 (ahead G false w) h.1)))
            (first-append G false alt ss (ahead G false w) (first G once rightly false (alt ++ ss) w t))

    decided : (m : N) (alt ss : List (Symbol T N)) (w : List T) → Fits G once rightly (any m ∷ ss) → Has (G.alternatives m) alt → Derives G.alternatives (alt ++ ss) w → chosen G m (ahead G (G.looks m) w) ≡ some alt
    decided m alt ss w f a t = first-is m (G.alternatives m) alt _ (both_true (distinct G m (G.alternatives m)) _ (both_true (right_all G m (G.alternatives m)) _ (rightly m)).1).0 a (foreseen m alt ss w f a t)

    -- a step on a name: what the name derives, its chosen alternative derives, and back; where none is chosen, nothing is derived
    pub step_down : (m : N) (alt ss : List (Symbol T N)) (w : List T) → Fits G once rightly (any m ∷ ss) → chosen G m (ahead G (G.looks m) w) ≡ some alt → Derives G.alternatives (any m ∷ ss) w → Derives G.alternatives (alt ++ ss) w
    step_down m alt ss w f e t =
        let (x, a, u) = back t in
        subst (λ (y : List (Symbol T N)). Derives G.alternatives (y ++ ss) w) (some-injective x alt (sym (decided m x ss w f a u) ∙ e)) u

    pub step-up : (m : N) (d : Option T) (alt ss : List (Symbol T N)) (w : List T) → chosen G m d ≡ some alt → Derives G.alternatives (alt ++ ss) w → Derives G.alternatives (any m ∷ ss) w
    step-up m d alt ss w e t = choice alt (chosen-has m d (G.alternatives m) alt e) t

    pub step-none : (m : N) (ss : List (Symbol T N)) (w : List T) → Fits G once rightly (any m ∷ ss) → chosen G m (ahead G (G.looks m) w) ≡ none → Derives G.alternatives (any m ∷ ss) w → ⊥
    step-none m ss w f e t = let (x, a, u) = back t in nope (sym e ∙ decided m x ss w f a u)

    -- what the machine accepts is derived
    pub accepted-derives : (f : ℕ) (ss : List (Symbol T N)) (w : List T) → run G f ss w ≡ true → Derives G.alternatives ss w
    accepted-derives zero ss w e = absurd (false≢true e)
    accepted-derives (suc f) [] [] e = end
    accepted-derives (suc f) [] (c ∷ w) e = absurd (false≢true e)
    accepted-derives (suc f) (the a ∷ ss) [] e = absurd (false≢true e)
    accepted-derives (suc f) (the a ∷ ss) (c ∷ w) e = go (eqb (G.code a) (G.code c)) refl e (λ h. accepted-derives f ss w h)
      where
        go : (b : Bool) → eqb (G.code a) (G.code c) ≡ b → elim b as (λ x. Bool) [ true ↦ run G f ss w | false ↦ false ] ≡ true → (run G f ss w ≡ true → Derives G.alternatives ss w) → Derives G.alternatives (the a ∷ ss) (c ∷ w)
        go true q h k = subst (λ (x : T). Derives G.alternatives (the a ∷ ss) (x ∷ w)) (once a c (eqb-true (G.code a) (G.code c) q)) (token (k h))
        go false q h k = absurd (false≢true h)
    accepted-derives (suc f) (any m ∷ ss) w e = go (chosen G m (ahead G (G.looks m) w)) refl e (λ alt h. accepted-derives f (alt ++ ss) w h)
      where
        go : (o : Option (List (Symbol T N))) → chosen G m (ahead G (G.looks m) w) ≡ o → elim o as (λ x. Bool) [ none ↦ false | some alt ↦ run G f (alt ++ ss) w ] ≡ true → ((alt : List (Symbol T N)) → run G f (alt ++ ss) w ≡ true → Derives G.alternatives (alt ++ ss) w) → Derives G.alternatives (any m ∷ ss) w
        go none q h k = absurd (false≢true h)
        go (some alt) q h k = step-up m (ahead G (G.looks m) w) alt ss w q (k alt h)

    -- what is derived is accepted, given as many steps
    pub derived-accepts : {ss : List (Symbol T N)} {w : List T} (t : Derives G.alternatives ss w) (f : ℕ) → Fits G once rightly ss → steps t < f → run G f ss w ≡ true
    derived-accepts end zero h l = absurd (omega arith)
    derived-accepts end (suc f) h l = refl
    derived-accepts (token t) zero h l = absurd (omega arith)
    derived-accepts (token {a} {ss} {w} t) (suc f) h l =
        ap (λ (b : Bool). elim b as (λ x. Bool) [ true ↦ run G f ss w | false ↦ false ]) (eq-eqb (G.code a) (G.code a) refl) ∙ derived-accepts t f h (omega arith)
    derived-accepts (choice alt a t) zero h l = absurd (omega arith)
    derived-accepts (choice {m} {ss} {w} alt a t) (suc f) h l =
        ap (λ (o : Option (List (Symbol T N))). elim o as (λ x. Bool) [ none ↦ false | some y ↦ run G f (y ++ ss) w ]) (decided m alt ss w h a t)
        ∙ derived-accepts t f (fits-choice G once rightly m alt ss a h) (omega arith)

    -- a name costs something, and no more than a token pays and an entry
    name-costs : (m : N) → (0 < G.cost m) × (G.cost m ≤ suc G.pay)
    name-costs m =
        let (x, y) = both_true (right_all G m (G.alternatives m)) _ (rightly m) in
        let (z, u) = both_true (distinct G m (G.alternatives m)) _ y in
        let (p, q) = both_true (ltb 0 (G.cost m)) _ u in
        (ltb-true 0 (G.cost m) p, leb-true (G.cost m) (suc G.pay) q)

    -- a stack has no more entries than it costs, and with one entry more on it costs no more than that entry and a token
    pub few-entries : (ss : List (Symbol T N)) → length ss ≤ due G ss
    few-entries [] = omega arith
    few-entries (the a ∷ ss) = omega arith
    few-entries (any m ∷ ss) = let (p, q) = name-costs m in omega arith

    pub due_below : (ss : List (Symbol T N)) → due G ss ≤ length ss + G.pay
    due_below [] = omega arith
    due_below (the a ∷ ss) = omega arith
    due_below (any m ∷ ss) = let (p, q) = name-costs m in omega arith

    -- a step on a name makes the stack cheaper
    pub due-falls : (m : N) (alt ss : List (Symbol T N)) → Has (G.alternatives m) alt → due G (alt ++ ss) < due G (any m ∷ ss)
    due-falls m [] ss a =
        let p = ltb-true G.pay (G.cost m) (right-at G m [] (rightly m) a).pays in
        let h = due_below ss in
        omega arith
    due-falls m (s ∷ r) ss a =
        let p = ltb-true (due G (s ∷ r)) (G.cost m) (right-at G m (s ∷ r) (rightly m) a).pays in
        let h = due-append s r ss in
        omega arith

    -- the steps that a derivation takes
    pub few-steps : {ss : List (Symbol T N)} {w : List T} (t : Derives G.alternatives ss w) → steps t ≤ due G ss + G.pay * length w
    few-steps end = omega arith
    few-steps (token {ss} {w} t) = let h = few-steps t in let e = mul-suc G.pay (length w) in let b = due_below ss in omega arith
    few-steps (choice {m} {ss} alt a t) = let h = few-steps t in let f = due-falls m alt ss a in omega arith

    -- THE LAW: a row of tokens is accepted exactly if the name derives it
    pub accepts-exactly : (m : N) (w : List T) → has G (G.follows m) none ≡ true → Tells (accepts G m w) (Derives G.alternatives (any m ∷ []) w)
    unfolding accepts
    accepts-exactly m w e = go (accepts G m w) refl
      where
        fits : Fits G once rightly (any m ∷ [])
        fits = (λ d h. subst (Has (G.follows m)) (sym h) (has-true G once (G.follows m) none e), tt)

        go : (b : Bool) → accepts G m w ≡ b → Tells b (Derives G.alternatives (any m ∷ []) w)
        go true q = accepted-derives (suc (G.cost m + G.pay * length w)) (any m ∷ []) w q
        go false q = λ t. let h = few-steps t in true-false (derived-accepts t (suc (G.cost m + G.pay * length w)) fits (omega arith)) q
