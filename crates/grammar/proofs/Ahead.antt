-- With what a row of symbols begins: the token ahead of whatever it derives is one of those that the grammar's sets name.
-- And what may follow: of every name in a stack that the machine can reach, what comes after it is in the set of what follows it.
use mathlib.Core.Path.{◌≡◌, refl, sym, ◌∙◌, ap, subst}
use mathlib.Core.Bool.{Bool, true, false, ◌&&◌, ◌||◌, not}
use mathlib.Core.Logic.{◌⊎◌, inl, inr, ⊎_elim}
use mathlib.Core.List.{List, [], ◌∷◌, ◌++◌}
use mathlib.Core.Option.{Option, none, some}
use Rattle.basics.specs.Choice.{choose, both_true}
use Rattle.grammar.specs.Derives.{Symbol, the, any, Has, Derives, end, token, choice}
use Rattle.grammar.specs.Machine.{Grammar, within, ahead, starts, gone, opens, followed, paid, right_one, right_all, right}
use Rattle.grammar.proofs.Sets.{not-or, has_left, has_right, has_chosen, within_has}

module _ {T N : Type 0} (G : Grammar T N) where
  -- the token ahead of what a row of symbols derives may be d
  abbrev pub First : Bool → List (Symbol T N) → Option T → Type 0
  First v [] d = d ≡ none
  First v (the a ∷ ss) d = elim (v && G.past a) [ true ↦ First v ss d | false ↦ d ≡ some a ]
  First v (any m ∷ ss) d = Has (G.begins v m) d ⊎ ((G.vanishes v m ≡ true) × First v ss d)

  -- a row in front of another
  pub first-append : (v : Bool) (xs ys : List (Symbol T N)) (d : Option T) → First v (xs ++ ys) d → Has (starts G v xs) d ⊎ ((gone G v xs ≡ true) × First v ys d)
  first-append v [] ys d h = inr (refl, h)
  first-append v (the a ∷ xs) ys d h = go (v && G.past a) h (λ g. first-append v xs ys d g)
    where
      go : (b : Bool) → elim b as (λ x. Type 0) [ true ↦ First v (xs ++ ys) d | false ↦ d ≡ some a ] → (First v (xs ++ ys) d → Has (starts G v xs) d ⊎ ((gone G v xs ≡ true) × First v ys d)) → Has (choose b (starts G v xs) (some a ∷ [])) d ⊎ ((b && gone G v xs ≡ true) × First v ys d)
      go true h f = f h
      go false h f = inl (inl (sym h))
  first-append v (any m ∷ xs) ys d (inl h) = inl (has_left (G.begins v m) _ d h)
  first-append v (any m ∷ xs) ys d (inr (e, h)) =
      ⊎_elim (λ g. inl (has_right (G.begins v m) _ d (has_chosen (G.vanishes v m) (starts G v xs) d e g))) (λ g. inr (ap (λ (b : Bool). b && gone G v xs) e ∙ g.0, g.1))
      (first-append v xs ys d h)

  -- what the test says of an alternative
  pub record Right (m : N) (alt : List (Symbol T N)) : Type 0 where
    pub plain : opens G false m alt ≡ true
    pub beyond : opens G true m alt ≡ true
    pub after : followed G m alt ≡ true
    pub seen : not (G.looks m && gone G true alt) ≡ true
    pub pays : paid G m alt ≡ true

  right-one : (m : N) (xs : List (List (Symbol T N))) (alt : List (Symbol T N)) → right_all G m xs ≡ true → Has xs alt → right_one G m alt ≡ true
  right-one m [] alt e h = absurd h
  right-one m (x ∷ xs) alt e (inl q) = subst (λ (y : List (Symbol T N)). right_one G m y ≡ true) q (both_true (right_one G m x) _ e).0
  right-one m (x ∷ xs) alt e (inr h) = right-one m xs alt (both_true (right_one G m x) _ e).1 h

  pub right-at : (m : N) (alt : List (Symbol T N)) → right G m ≡ true → Has (G.alternatives m) alt → Right m alt
  right-at m alt e h =
      let o = right-one m (G.alternatives m) alt (both_true (right_all G m (G.alternatives m)) _ e).0 h in
      let (p, q) = both_true (opens G false m alt && opens G true m alt) _ o in
      let (a, b) = both_true (opens G false m alt) _ p in
      let (c, d) = both_true (followed G m alt && not (G.looks m && gone G true alt)) _ q in
      let (f, g) = both_true (followed G m alt) _ c in
      record { plain = a; beyond = b; after = f; seen = g; pays = d }

  opens_at : (v : Bool) (m : N) (alt : List (Symbol T N)) → Right m alt → opens G v m alt ≡ true
  opens_at true m alt r = r.beyond
  opens_at false m alt r = r.plain

  module _ (once : (a b : T) → G.code a ≡ G.code b → a ≡ b) (rightly : (m : N) → right G m ≡ true) where
    -- a name in front of what an alternative of it is in front of
    opened : (v : Bool) (m : N) (alt ss : List (Symbol T N)) (d : Option T) → Has (G.alternatives m) alt → First v (alt ++ ss) d → First v (any m ∷ ss) d
    opened v m alt ss d a h =
        let (p, q) = both_true (within G (starts G v alt) (G.begins v m)) _ (opens_at v m alt (right-at m alt (rightly m) a)) in
        ⊎_elim (λ g. inl (within_has G once (starts G v alt) (G.begins v m) d p g)) (λ g. inr (not-or (gone G v alt) (G.vanishes v m) q g.0, g.1))
        (first-append v alt ss d h)

    -- the token ahead of what is derived
    pub first : (v : Bool) (ss : List (Symbol T N)) (w : List T) → Derives G.alternatives ss w → First v ss (ahead G v w)
    first v ss w end = refl
    first v ss w (token {a} {ss = rest} {w = u} t) = go (v && G.past a) (first v rest u t)
      where
        go : (b : Bool) → First v rest (ahead G v u) → elim b as (λ x. Type 0) [ true ↦ First v rest (choose b (ahead G v u) (some a)) | false ↦ choose b (ahead G v u) (some a) ≡ some a ]
        go true h = h
        go false h = refl
    first v ss w (choice {m} {ss = rest} alt a t) = opened v m alt rest (ahead G v w) a (first v (alt ++ rest) w t)

    -- of every name in a stack, what may come after it is in the set of what follows it
    abbrev pub Fits : List (Symbol T N) → Type 0
    Fits [] = Unit {0}
    Fits (the a ∷ ss) = Fits ss
    Fits (any m ∷ ss) = ((d : Option T) → First false ss d → Has (G.follows m) d) × Fits ss

    fits-append : (m : N) (xs ss : List (Symbol T N)) → followed G m xs ≡ true → ((d : Option T) → First false ss d → Has (G.follows m) d) → Fits ss → Fits (xs ++ ss)
    fits-append m [] ss e f h = h
    fits-append m (the a ∷ xs) ss e f h = fits-append m xs ss e f h
    fits-append m (any k ∷ xs) ss e f h =
        let (p, q) = both_true (within G (starts G false xs) (G.follows k) && (not (gone G false xs) || within G (G.follows m) (G.follows k))) _ e in
        let (a, b) = both_true (within G (starts G false xs) (G.follows k)) _ p in (
          λ d g. ⊎_elim (λ (u : Has (starts G false xs) d). within_has G once (starts G false xs) (G.follows k) d a u) (λ (u : (gone G false xs ≡ true) × First false ss d). within_has G once (G.follows m) (G.follows k) d (not-or (gone G false xs) _ b u.0) (f d u.1))
              (first-append false xs ss d g),
          fits-append m xs ss q f h,
        )

    pub fits-choice : (m : N) (alt ss : List (Symbol T N)) → Has (G.alternatives m) alt → Fits (any m ∷ ss) → Fits (alt ++ ss)
    fits-choice m alt ss a (f, h) = fits-append m alt ss (right-at m alt (rightly m) a).after f h
