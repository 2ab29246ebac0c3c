-- What may come after a byte, and whether nothing may: `after` and `may_end` say of every rule what the rule allows.
use Prim.Native.Nat.{ℕ}
use mathlib.Core.Path.{◌≡◌, refl, sym, ◌∙◌, ap, subst}
use mathlib.Core.Bool.{Bool, true, false, ◌&&◌, ◌||◌, false≢true}
use mathlib.Core.List.{List, [], ◌∷◌, ◌++◌, append_assoc}
use mathlib.Core.Logic.{◌⊎◌, inl, inr, ⊎_elim}
use Rattle.basics.specs.Choice.{choose, both_true}
use Rattle.fof_tokens.specs.Rule.{Rule, never, empty, byte, ◌▸◌, ◌∣◌, many, Many, done, more, ◌by◌}
use Rattle.fof_tokens.specs.Machine.{may_end, onto, either, or_last, after}

-- lists
pub cons_head : {a b : ℕ} {v w : List ℕ} → a ∷ v ≡ b ∷ w → a ≡ b
cons_head e = cc

pub cons_tail : {a b : ℕ} {v w : List ℕ} → a ∷ v ≡ b ∷ w → v ≡ w
cons_tail e = cc

abbrev is_cons : List ℕ → Bool
is_cons [] = false
is_cons (c ∷ w) = true

pub nil-cons : {P : Type 0} {a : ℕ} {w : List ℕ} → [] ≡ a ∷ w → P
nil-cons e = absurd (false≢true (ap is_cons e))

pub no-parts : (u v : List ℕ) → [] ≡ u ++ v → (u ≡ []) × (v ≡ [])
no-parts [] v e = (refl, sym e)
no-parts (c ∷ u) v e = nil-cons e

pub or-true : (a b : Bool) → a || b ≡ true → (a ≡ true) ⊎ (b ≡ true)
or-true true b e = inl refl
or-true false b e = inr e

pub true-or : (a b : Bool) → a ≡ true → a || b ≡ true
true-or a b e = rw e refl

pub or-too : (a b : Bool) → b ≡ true → a || b ≡ true
or-too true b e = refl
or-too false b e = e

both : {a b : Bool} → a ≡ true → b ≡ true → a && b ≡ true
both e f = rw e f

-- the same bytes, written otherwise
same : {v w : List ℕ} (r : Rule) → v ≡ w → v by r → w by r
same r e h = subst (λ (x : List ℕ). x by r) e h

-- nothing may come
pub end_by : (r : Rule) → may_end r ≡ true → [] by r
end_by never e = absurd (false≢true e)
end_by empty e = refl
end_by (byte t) e = absurd (false≢true e)
end_by (r ▸ s) e = let (a, b) = both_true (may_end r) (may_end s) e in ([], [], refl, end_by r a, end_by s b)
end_by (r ∣ s) e = ⊎_elim (λ a. inl (end_by r a)) (λ b. inr (end_by s b)) (or-true (may_end r) (may_end s) e)
end_by (many r) e = done refl

pub by_end : (r : Rule) → [] by r → may_end r ≡ true
by_end never h = absurd h
by_end empty h = refl
by_end (byte t) (c, e, h) = nil-cons e
by_end (r ▸ s) (u, v, e, h, k) =
    let (a, b) = no-parts u v e in both (by_end r (same r a h)) (by_end s (same s b k))
by_end (r ∣ s) (inl h) = true-or (may_end r) (may_end s) (by_end r h)
by_end (r ∣ s) (inr h) = or-too (may_end r) (may_end s) (by_end s h)
by_end (many r) h = refl

-- writing short changes nothing
onto-by : (r s : Rule) (w : List ℕ) → w by (r ▸ s) → w by onto r s
onto-by never s w (u, v, e, h, k) = absurd h
onto-by empty s w (u, v, e, h, k) = same s (sym (e ∙ ap (λ (x : List ℕ). x ++ v) h)) k
onto-by (byte t) s w h = h
onto-by (r ▸ r') s w (u, v, e, (x, y, q, h, k), l) =
    (x, y ++ v, e ∙ ap (λ (z : List ℕ). z ++ v) q ∙ append_assoc x y v, h, onto-by r' s (y ++ v) (y, v, refl, k, l))
onto-by (r ∣ r') s w h = h
onto-by (many r) s w h = h

by-onto : (r s : Rule) (w : List ℕ) → w by onto r s → w by (r ▸ s)
by-onto never s w h = absurd h
by-onto empty s w h = ([], w, refl, refl, h)
by-onto (byte t) s w h = h
by-onto (r ▸ r') s w (x, z, e, h, k) =
    let (y, v, q, l, m) = by-onto r' s z k in
    (x ++ y, v, e ∙ ap (λ (a : List ℕ). x ++ a) q ∙ sym (append_assoc x y v), (x, y, refl, h, l), m)
by-onto (r ∣ r') s w h = h
by-onto (many r) s w h = h

last-by : (r s : Rule) (w : List ℕ) → w by (r ∣ s) → w by or_last r s
last-by r never w (inl h) = h
last-by r never w (inr h) = absurd h
last-by r empty w h = h
last-by r (byte t) w h = h
last-by r (s ▸ s') w h = h
last-by r (s ∣ s') w h = h
last-by r (many s) w h = h

by_last : (r s : Rule) (w : List ℕ) → w by or_last r s → w by (r ∣ s)
by_last r never w h = inl h
by_last r empty w h = h
by_last r (byte t) w h = h
by_last r (s ▸ s') w h = h
by_last r (s ∣ s') w h = h
by_last r (many s) w h = h

either-by : (r s : Rule) (w : List ℕ) → w by (r ∣ s) → w by either r s
either-by never s w (inl h) = absurd h
either-by never s w (inr h) = h
either-by empty s w h = last-by empty s w h
either-by (byte t) s w h = last-by (byte t) s w h
either-by (r ▸ r') s w h = last-by (r ▸ r') s w h
either-by (r ∣ r') s w h = last-by (r ∣ r') s w h
either-by (many r) s w h = last-by (many r) s w h

by-either : (r s : Rule) (w : List ℕ) → w by either r s → w by (r ∣ s)
by-either never s w h = inr h
by-either empty s w h = by_last empty s w h
by-either (byte t) s w h = by_last (byte t) s w h
by-either (r ▸ r') s w h = by_last (r ▸ r') s w h
by-either (r ∣ r') s w h = by_last (r ∣ r') s w h
by-either (many r) s w h = by_last (many r) s w h

-- what an option allows
choice-by : (b : Bool) (r : Rule) (w : List ℕ) → b ≡ true → w by r → w by choose b r never
choice-by b r w e h = subst (λ (x : Bool). w by choose x r never) (sym e) h

by-choice : (b : Bool) (r : Rule) (w : List ℕ) → w by choose b r never → (b ≡ true) × (w by r)
by-choice true r w h = (refl, h)
by-choice false r w h = absurd h

-- a repetition that starts with a byte starts with a string that is not empty
pub first_of : {P : List ℕ → Type 0} {w x : List ℕ} {c : ℕ} → Many P x → x ≡ c ∷ w → (u : List ℕ) × (v : List ℕ) × (w ≡ u ++ v) × P (c ∷ u) × Many P v
first_of (done e) q = nil-cons (sym e ∙ q)
first_of {P} {w} {x} {c} (more {u = []} e h k) q = first_of k (sym e ∙ q)
first_of {P} {w} {x} {c} (more {u = d ∷ u} {v = v} e h k) q =
    (u, v, sym (cons_tail (sym e ∙ q)), subst (λ (y : ℕ). P (y ∷ u)) (cons_head (sym e ∙ q)) h, k)

-- what may come after a byte
pub after-by : (c : ℕ) (r : Rule) (w : List ℕ) → c ∷ w by r → w by after c r
after-by c never w h = h
after-by c empty w h = nil-cons (sym h)
after-by c (byte t) w (d, e, h) = choice-by (t c) empty w (ap t (cons_head e) ∙ h) (cons_tail e)
after-by c (r ▸ s) w ([], v, e, h, k) =
    either-by (onto (after c r) s) (choose (may_end r) (after c s) never) w
    (inr (choice-by (may_end r) (after c s) w (by_end r h) (after-by c s w (same s (sym e) k))))
after-by c (r ▸ s) w (d ∷ u, v, e, h, k) =
    either-by (onto (after c r) s) (choose (may_end r) (after c s) never) w
    (inl (onto-by (after c r) s w
    (u, v, cons_tail e, after-by c r u (subst (λ (y : ℕ). y ∷ u by r) (sym (cons_head e)) h), k)))
after-by c (r ∣ s) w (inl h) = either-by (after c r) (after c s) w (inl (after-by c r w h))
after-by c (r ∣ s) w (inr h) = either-by (after c r) (after c s) w (inr (after-by c s w h))
after-by c (many r) w h =
    let (u, v, e, k, m) = first_of h refl in onto-by (after c r) (many r) w (u, v, e, after-by c r u k, m)

pub by_after : (c : ℕ) (r : Rule) (w : List ℕ) → w by after c r → c ∷ w by r
by_after c never w h = h
by_after c empty w h = absurd h
by_after c (byte t) w h = let (e, q) = by-choice (t c) empty w h in (c, ap (λ (x : List ℕ). c ∷ x) q, e)
by_after c (r ▸ s) w h = ⊎_elim
    (λ k. let (u, v, e, p, q) = by-onto (after c r) s w k in (c ∷ u, v, ap (λ (x : List ℕ). c ∷ x) e, by_after c r u p, q))
    (λ k. let (e, q) = by-choice (may_end r) (after c s) w k in ([], c ∷ w, refl, end_by r e, by_after c s w q))
    (by-either (onto (after c r) s) (choose (may_end r) (after c s) never) w h)
by_after c (r ∣ s) w h = ⊎_elim (λ k. inl (by_after c r w k)) (λ k. inr (by_after c s w k)) (by-either (after c r) (after c s) w h)
by_after c (many r) w h =
    let (u, v, e, p, q) = by-onto (after c r) (many r) w h in more (ap (λ (x : List ℕ). c ∷ x) e) (by_after c r u p) q
