-- Where the first list opens above the limit of nesting, and what nesting has to do with it. From document 01, "Sizes": the outermost list is level 1.
use Prim.Native.Nat.{ℕ, zero, suc, ◌+◌, ◌≤◌, ◌<◌}
use mathlib.Core.Path.{◌≡◌, refl, sym, ◌∙◌, ap, subst}
use mathlib.Core.Bool.{Bool, true, false}
use mathlib.Core.List.{[], ◌∷◌}
use mathlib.Core.Logic.{◌⊎◌, inl, inr, ⊎_elim}
use native.Mathlib.Omega.{arith}
use lib.Dec.{eqb, ltb}
use lib.ListN.{length}
use borrow.Author.Tests.{eqb-true, eqb-false, ltb-true, ltb-false}
use Rattle.basics.specs.Choice.{choose}
use Rattle.sexp.specs.declared.carrier.Carrier.{Carrier}
use Rattle.sexp.specs.declared.carrier.Carrier.TheVariants.{Sound, Fault, Deep}
use Rattle.sexp.specs.Sexp.{Sexp, Sexps, str, hinted, list, nil, cons, spell, spells, nesting, nestings}
use Rattle.sexp.specs.Place.{At, Among, here, within, first, later, Opens}
use Rattle.sexp.specs.Scan.{deeper}
use Rattle.sexp.proofs.SpellLaws.{spell-length, spells-length}
use Rattle.sexp.proofs.Spelt.{mark, marks}

-- among the members of a list
abbrev OpensIn : Sexps → ℕ → ℕ → Type 0
OpensIn xs l o = (ys : Sexps) × Among xs l o (list ys)

-- what stands where, by cases on what it stands in
abbrev IsStr : Sexp → Type 0
IsStr (str bs) = Unit {0}
IsStr (hinted h bs) = Unit {0}
IsStr (list xs) = ⊥

abbrev Inside : Sexp → ℕ → ℕ → Sexp → Type 0
Inside (str bs) l o x = IsStr x
Inside (hinted h bs) l o x = IsStr x
Inside (list xs) l o x = ((l ≡ 0) × (o ≡ 0)) ⊎ ((k : ℕ) × (p : ℕ) × (l ≡ suc k) × (o ≡ suc p) × Among xs k p x)

inside : {e x : Sexp} {l o : ℕ} → At e l o x → Inside e l o x
inside (here {e = str bs}) = tt
inside (here {e = hinted h bs}) = tt
inside (here {e = list xs}) = inl (refl, refl)
inside (within {l = k} {o = p} t) = inr (k, p, refl, refl, t)

abbrev Member : Sexps → ℕ → ℕ → Sexp → Type 0
Member nil l o x = ⊥
Member (cons e es) l o x = At e l o x ⊎ ((p : ℕ) × (o ≡ length (spell e) + p) × Among es l p x)

member : {es : Sexps} {x : Sexp} {l o : ℕ} → Among es l o x → Member es l o x
member (first t) = inl t
member (later {o = p} t) = inr (p, refl, t)

-- nothing stands past the end
abbrev Near : (ℕ → ℕ → Type 0) → ℕ → Type 0
Near O n = (l o : ℕ) → O l o → o ≤ n

near-list : (xs : Sexps) → Near (OpensIn xs) (length (spells xs)) → Near (Opens (list xs)) (length (spell (list xs)))
near-list xs ih l o (ys, t) =
    ⊎_elim (λ z. omega arith) (λ z. let (k, p, e, f, u) = z in omega (arith, ih k p (ys, u), f, spells-length xs (41 ∷ []))) (inside t)

near-cons : (e : Sexp) (es : Sexps) → Near (Opens e) (length (spell e)) → Near (OpensIn es) (length (spells es)) → Near (OpensIn (cons e es)) (length (spells (cons e es)))
near-cons e es a b l o (ys, t) =
    ⊎_elim (λ u. omega (arith, a l o (ys, u), spell-length e (spells es)))
    (λ z. let (p, f, u) = z in omega (arith, b l p (ys, u), f, spell-length e (spells es)))
    (member t)

mutual
  near : (e : Sexp) → Near (Opens e) (length (spell e))
  near (str bs) = λ l o (ys, t). absurd (inside t)
  near (hinted h bs) = λ l o (ys, t). absurd (inside t)
  near (list xs) = near-list xs (near-in xs)

  near-in : (es : Sexps) → Near (OpensIn es) (length (spells es))
  near-in nil = λ l o (ys, t). absurd (member t)
  near-in (cons e es) = near-cons e es (near e) (near-in es)

module _ (limit : ℕ) where
  -- what a verdict, Sound before, says of what opens from an offset on, in d lists
  abbrev pub Says : ℕ → ℕ → (ℕ → ℕ → Type 0) → Carrier → Type 0
  Says d at O Sound = (l o : ℕ) → d + l ≡ limit → O l o → ⊥
  Says d at O (Fault p) = ⊥
  Says d at O (Deep p) = (l : ℕ) × (o : ℕ) × (d + l ≡ limit) × (p ≡ at + o) × O l o × ((k q : ℕ) → d + k ≡ limit → O k q → o ≤ q)

  -- once deep, always so
  mutual
    unfolding mark deeper

    stays : (e : Sexp) (d at p : ℕ) → mark limit d at (Deep p) e ≡ Deep p
    stays (str bs) d at p = refl
    stays (hinted h bs) d at p = refl
    stays (list xs) d at p = stay-in xs (suc d) (at + 1) p

    stay-in : (es : Sexps) (d at p : ℕ) → marks limit d at (Deep p) es ≡ Deep p
    stay-in nil d at p = refl
    stay-in (cons e es) d at p = ap (λ (v : Carrier). marks limit d (at + length (spell e)) v es) (stays e d at p) ∙ stay-in es d (at + length (spell e)) p

  -- a list that opens at another level
  says-list : (d at : ℕ) (xs : Sexps) (r : Carrier) → (d ≡ limit → ⊥) → Says (suc d) (at + 1) (OpensIn xs) r → Says d at (Opens (list xs)) r
  says-list d at xs Sound n t = λ l o e (ys, u).
      ⊎_elim (λ z. n (omega arith)) (λ z. let (k, p, f, g, m) = z in t k p (omega arith) (ys, m)) (inside u)
  says-list d at xs (Fault p) n t = t
  says-list d at xs (Deep p) n (l, o, e, f, (ys, u), t) = (
    suc l,
    suc o,
    omega arith,
    omega arith,
    (ys, within u),
    λ k q g (zs, v).
        ⊎_elim (λ z. absurd (n (omega arith))) (λ z. let (k', q', h, i, m) = z in let j = t k' q' (omega arith) (zs, m) in omega arith) (inside v),
  )

  -- the members after the first, where nothing deep is in it
  says-later : (d at : ℕ) (e : Sexp) (es : Sexps) (r : Carrier) → Says d at (Opens e) Sound → Says d (at + length (spell e)) (OpensIn es) r → Says d at (OpensIn (cons e es)) r
  says-later d at e es Sound s t = λ l o h (ys, u).
      ⊎_elim (λ v. s l o h (ys, v)) (λ z. let (p, f, v) = z in t l p h (ys, v)) (member u)
  says-later d at e es (Fault p) s t = t
  says-later d at e es (Deep p) s (l, o, h, f, (ys, u), t) = (
    l,
    length (spell e) + o,
    h,
    omega arith,
    (ys, later u),
    λ k q g (zs, v).
        ⊎_elim (λ w. absurd (s k q g (zs, w))) (λ z. let (q', i, w) = z in let j = t k q' g (zs, w) in omega arith) (member v),
  )

  says_first : (d at p : ℕ) (e : Sexp) (es : Sexps) → Says d at (Opens e) (Deep p) → Says d at (OpensIn (cons e es)) (Deep p)
  says_first d at p e es (l, o, h, f, (ys, u), t) = (
    l,
    o,
    h,
    f,
    (ys, first u),
    λ k q g (zs, v).
        ⊎_elim (λ w. t k q g (zs, w)) (λ z. let (q', i, w) = z in let j = near e l o (ys, u) in omega arith) (member v),
  )

  mutual
    unfolding mark deeper

    pub says : (e : Sexp) (d at : ℕ) → Says d at (Opens e) (mark limit d at Sound e)
    says (str bs) d at = λ l o h (ys, u). inside u
    says (hinted n bs) d at = λ l o h (ys, u). inside u
    says (list xs) d at = go (eqb d limit) refl (says-in xs (suc d) (at + 1))
      where
        go : (b : Bool) → eqb d limit ≡ b → Says (suc d) (at + 1) (OpensIn xs) (marks limit (suc d) (at + 1) Sound xs) → Says d at (Opens (list xs)) (marks limit (suc d) (at + 1) (choose b (Deep at) Sound) xs)
        go true e t =
            subst (Says d at (Opens (list xs))) (sym (stay-in xs (suc d) (at + 1) at))
            (0, 0, omega (arith, eqb-true d limit e), omega arith, (xs, here), λ k q g u. omega arith)
        go false e t = says-list d at xs (marks limit (suc d) (at + 1) Sound xs) (eqb-false d limit e) t

    says-in : (es : Sexps) (d at : ℕ) → Says d at (OpensIn es) (marks limit d at Sound es)
    says-in nil d at = λ l o h (ys, u). member u
    says-in (cons e es) d at = go (mark limit d at Sound e) (says e d at) (says-in es d (at + length (spell e)))
      where
        go : (r : Carrier) → Says d at (Opens e) r → Says d (at + length (spell e)) (OpensIn es) (marks limit d (at + length (spell e)) Sound es) → Says d at (OpensIn (cons e es)) (marks limit d (at + length (spell e)) r es)
        go Sound s t = says-later d at e es (marks limit d (at + length (spell e)) Sound es) s t
        go (Fault p) s t = absurd s
        go (Deep p) s t = subst (Says d at (OpensIn (cons e es))) (sym (stay-in es d (at + length (spell e)) p)) (says_first d at p e es s)

-- nesting counts the levels at which a list opens
mutual
  pub opens-nesting : (e : Sexp) (l o : ℕ) → Opens e l o → l < nesting e
  opens-nesting (str bs) l o (ys, t) = absurd (inside t)
  opens-nesting (hinted h bs) l o (ys, t) = absurd (inside t)
  opens-nesting (list xs) l o (ys, t) = go (λ k p u. among-nesting xs k p u) (inside t)
    where
      go : ((k p : ℕ) → OpensIn xs k p → k < nestings xs) → Inside (list xs) l o (list ys) → l < nesting (list xs)
      go ih (inl z) = omega arith
      go ih (inr (k, p, e, f, u)) = omega (arith, ih k p (ys, u), e)

  among-nesting : (es : Sexps) (l o : ℕ) → OpensIn es l o → l < nestings es
  among-nesting nil l o (ys, t) = absurd (member t)
  among-nesting (cons e es) l o (ys, t) = go (λ u. opens-nesting e l o u) (λ p u. among-nesting es l p u) (member t)
    where
      go : (Opens e l o → l < nesting e) → ((p : ℕ) → OpensIn es l p → l < nestings es) → Member (cons e es) l o (list ys) → l < nestings (cons e es)
      go a b (inl u) = omega (arith, a (ys, u))
      go a b (inr (p, f, u)) = omega (arith, b p (ys, u))

mutual
  pub nesting-opens : (e : Sexp) (l : ℕ) → l < nesting e → (o : ℕ) × Opens e l o
  nesting-opens (str bs) l h = absurd (omega arith)
  nesting-opens (hinted n bs) l h = absurd (omega arith)
  nesting-opens (list xs) zero h = (0, (xs, here))
  nesting-opens (list xs) (suc l) h = let (o, (ys, u)) = nesting-among xs l (omega arith) in (suc o, (ys, within u))

  nesting-among : (es : Sexps) (l : ℕ) → l < nestings es → (o : ℕ) × OpensIn es l o
  nesting-among nil l h = absurd (omega arith)
  nesting-among (cons e es) l h = go (ltb l (nesting e)) refl (λ h. nesting-opens e l h) (λ h. nesting-among es l h)
    where
      go : (b : Bool) → ltb l (nesting e) ≡ b → (l < nesting e → (o : ℕ) × Opens e l o) → (l < nestings es → (o : ℕ) × OpensIn es l o) → (o : ℕ) × OpensIn (cons e es) l o
      go true t a b = let (o, (ys, u)) = a (ltb-true l (nesting e) t) in (o, (ys, first u))
      go false t a b = let (o, (ys, u)) = b (omega (arith, h, ltb-false l (nesting e) t)) in (length (spell e) + o, (ys, later u))
