-- Two grammars over the same names whose productions cover each other derive the same.
use Prim.Native.Nat.{ℕ, zero, suc}
use mathlib.Core.Path.{◌≡◌, refl, sym, ◌∙◌, ap, subst}
use mathlib.Core.Bool.{Bool, true, false, false≢true}
use mathlib.Core.Logic.{◌⊎◌, inl, inr}
use mathlib.Core.List.{List, [], ◌∷◌, ◌++◌, map}
use borrow.Author.Tests.{eqb-true}
use Rattle.grammar.specs.Derives.{Symbol, the, any, Has, Derives, end, token, choice}
use Rattle.grammar.specs.Recast.{any_of, all_of, gather, same_symbol, leads, spread, covers}
use Rattle.grammar.proofs.Sets.{has_left, has_right}
use Rattle.grammar.proofs.Parts.{join, split, under}

module _ {A : Type 0} where
  any-one : (f : A → Bool) (xs : List A) → any_of f xs ≡ true → (x : A) × Has xs x × (f x ≡ true)
  any-one f [] e = absurd (false≢true e)
  any-one f (x ∷ xs) e = go (f x) refl e (λ h. any-one f xs h)
    where
      go : (b : Bool) → f x ≡ b → elim b as (λ y. Bool) [ true ↦ true | false ↦ any_of f xs ] ≡ true → (any_of f xs ≡ true → (y : A) × Has xs y × (f y ≡ true)) → (y : A) × Has (x ∷ xs) y × (f y ≡ true)
      go true q h k = (x, inl refl, q)
      go false q h k = let (y, a, t) = k h in (y, inr a, t)

  pub all_one : (f : A → Bool) (xs : List A) (x : A) → all_of f xs ≡ true → Has xs x → f x ≡ true
  all_one f [] x e h = absurd h
  all_one f (y ∷ ys) x e h = go (f y) refl e h (λ q a. all_one f ys x q a)
    where
      go : (b : Bool) → f y ≡ b → elim b as (λ z. Bool) [ true ↦ all_of f ys | false ↦ false ] ≡ true → (y ≡ x) ⊎ Has ys x → (all_of f ys ≡ true → Has ys x → f x ≡ true) → f x ≡ true
      go true q g (inl p) k = sym (ap f p) ∙ q
      go true q g (inr a) k = k g a
      go false q g a k = absurd (false≢true g)

  has-map : {B : Type 0} (f : A → B) (xs : List A) (x : A) → Has xs x → Has (map f xs) (f x)
  has-map f [] x h = absurd h
  has-map f (y ∷ ys) x (inl p) = inl (ap f p)
  has-map f (y ∷ ys) x (inr h) = inr (has-map f ys x h)

  has-gather : {B : Type 0} (f : A → List B) (xs : List A) (x : A) (y : B) → Has xs x → Has (f x) y → Has (gather f xs) y
  has-gather f [] x y h g = absurd h
  has-gather f (z ∷ zs) x y (inl p) g = has_left (f z) (gather f zs) y (subst (λ (u : A). Has (f u) y) (sym p) g)
  has-gather f (z ∷ zs) x y (inr h) g = has_right (f z) (gather f zs) y (has-gather f zs x y h g)

module _ {T N : Type 0} (code : T → ℕ) (number : N → ℕ) (once : (a b : T) → code a ≡ code b → a ≡ b) (called-once : (m n : N) → number m ≡ number n → m ≡ n) where
  pub same-symbol : (alts : N → List (List (Symbol T N))) (x y : Symbol T N) → same_symbol code number alts x y ≡ true → x ≡ y
  same-symbol alts (the a) (the b) e = ap the (once a b (eqb-true (code a) (code b) e))
  same-symbol alts (the a) (any n) e = absurd (false≢true e)
  same-symbol alts (any m) (the b) e = absurd (false≢true e)
  same-symbol alts (any m) (any n) e = ap any (called-once m n (eqb-true (number m) (number n) e))

  module _ (alts : N → List (List (Symbol T N))) where
    -- what xs can become derives no more than xs
    leads-derives : (k : ℕ) (xs ys : List (Symbol T N)) (w : List T) → leads code number alts k xs ys ≡ true → Derives alts ys w → Derives alts xs w
    leads-derives zero xs ys w e t = absurd (false≢true e)
    leads-derives (suc k) [] [] w e t = t
    leads-derives (suc k) [] (y ∷ ys) w e t = absurd (false≢true e)
    leads-derives (suc k) (the a ∷ xs) [] w e t = absurd (false≢true e)
    leads-derives (suc k) (the a ∷ xs) (y ∷ ys) w e t = go (same_symbol code number alts (the a) y) refl e (λ v h u. leads-derives k xs ys v h u)
      where
        go : (b : Bool) → same_symbol code number alts (the a) y ≡ b → elim b as (λ z. Bool) [ true ↦ leads code number alts k xs ys | false ↦ false ] ≡ true → ((v : List T) → leads code number alts k xs ys ≡ true → Derives alts ys v → Derives alts xs v) → Derives alts (the a ∷ xs) w
        go true q h f = under alts (the a) ys xs w (λ v u. f v h u) (subst (λ (s : Symbol T N). Derives alts (s ∷ ys) w) (sym (same-symbol alts (the a) y q)) t)
        go false q h f = absurd (false≢true h)
    leads-derives (suc k) (any m ∷ xs) [] w e t =
        let (alt, a, h) = any-one (λ alt. leads code number alts k (alt ++ xs) []) (alts m) e in
        choice alt a (leads-derives k (alt ++ xs) [] w h t)
    leads-derives (suc k) (any m ∷ xs) (y ∷ ys) w e t = go (same_symbol code number alts (any m) y) refl e (λ v h u. leads-derives k xs ys v h u) (λ alt h. leads-derives k (alt ++ xs) (y ∷ ys) w h t)
      where
        go : (b : Bool) → same_symbol code number alts (any m) y ≡ b → elim b as (λ z. Bool) [ true ↦ leads code number alts k xs ys | false ↦ any_of (λ alt. leads code number alts k (alt ++ xs) (y ∷ ys)) (alts m) ] ≡ true → ((v : List T) → leads code number alts k xs ys ≡ true → Derives alts ys v → Derives alts xs v) → ((alt : List (Symbol T N)) → leads code number alts k (alt ++ xs) (y ∷ ys) ≡ true → Derives alts (alt ++ xs) w) → Derives alts (any m ∷ xs) w
        go true q h f g = under alts (any m) ys xs w (λ v u. f v h u) (subst (λ (s : Symbol T N). Derives alts (s ∷ ys) w) (sym (same-symbol alts (any m) y q)) t)
        go false q h f g =
            let (alt, a, r) = any-one (λ alt. leads code number alts k (alt ++ xs) (y ∷ ys)) (alts m) h in
            choice alt a (g alt r)

    -- one of those that xs becomes by the marked names derives what xs derives
    abbrev Spread : (N → Bool) → ℕ → List (Symbol T N) → List T → Type 0
    Spread marked k xs w = (ys : List (Symbol T N)) × Has (spread code number alts marked k xs) ys × Derives alts ys w

    spread-derives : (marked : N → Bool) (k : ℕ) (xs : List (Symbol T N)) (w : List T) → Derives alts xs w → Spread marked k xs w
    spread-derives marked zero xs w t = (xs, inl refl, t)
    spread-derives marked (suc k) [] w t = ([], inl refl, t)
    spread-derives marked (suc k) (the a ∷ xs) w t =
        let p = split alts (the a ∷ []) xs t in
        let (ys, h, u) = spread-derives marked k xs p.back p.second in
        (the a ∷ ys, has-map (λ zs. the a ∷ zs) (spread code number alts marked k xs) ys h, subst (λ (v : List T). Derives alts (the a ∷ ys) v) p.whole (join alts p.first u))
    spread-derives marked (suc k) (any m ∷ xs) w t = go (marked m) (λ v u. spread-derives marked k xs v u) (λ alt u. spread-derives marked k (alt ++ xs) w u) t
      where
        from : Derives alts (any m ∷ xs) w → (alt : List (Symbol T N)) × Has (alts m) alt × Derives alts (alt ++ xs) w
        from (choice alt a u) = (alt, a, u)

        go : (b : Bool) → ((v : List T) → Derives alts xs v → Spread marked k xs v) → ((alt : List (Symbol T N)) → Derives alts (alt ++ xs) w → Spread marked k (alt ++ xs) w) → Derives alts (any m ∷ xs) w → (ys : List (Symbol T N)) × Has (elim b as (λ z. List (List (Symbol T N))) [ true ↦ gather (λ alt. spread code number alts marked k (alt ++ xs)) (alts m) | false ↦ map (λ ys. any m ∷ ys) (spread code number alts marked k xs) ]) ys × Derives alts ys w
        go true f g t =
            let (alt, a, u) = from t in
            let (ys, h, r) = g alt u in
            (ys, has-gather (λ alt. spread code number alts marked k (alt ++ xs)) (alts m) alt ys a h, r)
        go false f g t =
            let p = split alts (any m ∷ []) xs t in
            let (ys, h, u) = f p.back p.second in
            (any m ∷ ys, has-map (λ zs. any m ∷ zs) (spread code number alts marked k xs) ys h, subst (λ (v : List T). Derives alts (any m ∷ ys) v) p.whole (join alts p.first u))

    -- a production that is covered adds nothing
    covered : (marked : N → Bool) (k : ℕ) (m : N) (alt ss : List (Symbol T N)) (w : List T) → covers code number alts marked k m alt ≡ true → Derives alts (alt ++ ss) w → Derives alts (any m ∷ ss) w
    covered marked k m alt ss w e t =
        let p = split alts alt ss t in
        let (ys, h, u) = spread-derives marked k alt p.front p.first in
        let r = leads-derives k (any m ∷ []) ys p.front (all_one (leads code number alts k (any m ∷ [])) (spread code number alts marked k alt) ys e h) u in
        subst (λ (v : List T). Derives alts (any m ∷ ss) v) p.whole (join alts r p.second)

    -- THE LAW: where every production of a grammar is covered by another grammar, that one derives what the first does
    pub recast : (marked : N → Bool) (k : ℕ) (other : N → List (List (Symbol T N))) → ((m : N) → all_of (covers code number alts marked k m) (other m) ≡ true) → {ss : List (Symbol T N)} {w : List T} → Derives other ss w → Derives alts ss w
    recast marked k other c end = end
    recast marked k other c (token t) = token (recast marked k other c t)
    recast marked k other c (choice {m} {ss} {w} alt a t) =
        covered marked k m alt ss w (all_one (covers code number alts marked k m) (other m) alt (c m) a) (recast marked k other c t)
