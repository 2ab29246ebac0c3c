-- The carrier's answer means what it says, and no other answer does. From document 01, refusals 2 and 3, and document 02, Two, for their places.
use Prim.Native.Nat.{ℕ, ◌+◌, ◌≤◌, ◌<◌}
use mathlib.Core.Path.{◌≡◌, refl, sym, ◌∙◌, ap, subst}
use mathlib.Core.Bool.{Bool, true, false}
use mathlib.Core.List.{List, ◌++◌}
use native.Mathlib.Omega.{arith}
use lib.Dec.{ltb}
use lib.ListN.{length, take}
use borrow.Author.Tests.{ltb-true, ltb-false}
use Rattle.sexp.specs.declared.carrier.Carrier.{Carrier}
use Rattle.sexp.specs.declared.carrier.Carrier.TheVariants.{Sound, Fault, Deep}
use Rattle.sexp.specs.Sexp.{Sexp, spell_onto, spell, nesting}
use Rattle.sexp.specs.Known.{Known}
use Rattle.sexp.specs.Place.{Opens}
use Rattle.sexp.specs.Scan.{hints_read, due, judgement, carrier_of}
use Rattle.sexp.specs.Meaning.{Viable, Longest, First, MeansWith, Means}
use Rattle.sexp.proofs.Spelt.{spelt-whole}
use Rattle.sexp.proofs.Told.{Rest, Told, told, steady}
use Rattle.sexp.proofs.Deeper.{Says, says, opens-nesting, nesting-opens}

module _ (hints : Bool) where
  -- an expression and nothing after it
  whole : (w : List ℕ) → Rest hints (due 0) w → (e : Sexp) × Known hints e × (spell e ≡ w)
  whole w (e, k, h, y, n) = (e, y, sym (h ∙ ap (spell_onto e) n))

  -- a longest beginning is as long as another
  longest-once : (s : List ℕ) (o p : ℕ) → Longest hints s o → Longest hints s p → o ≡ p
  longest-once s o p a b = go (ltb o p) refl (ltb p o) refl
    where
      go : (x : Bool) → ltb o p ≡ x → (y : Bool) → ltb p o ≡ y → o ≡ p
      go true e y f = absurd (a.longest p (ltb-true o p e) b.inside b.viable)
      go false e true f = absurd (b.longest o (ltb-true p o f) a.inside a.viable)
      go false e false f = omega (arith, ltb-false o p e, ltb-false p o f)

module _ (limit : ℕ) where
  shallow : (e : Sexp) → ((l o : ℕ) → 0 + l ≡ limit → Opens e l o → ⊥) → nesting e ≤ limit
  shallow e n = go (ltb limit (nesting e)) refl
    where
      go : (b : Bool) → ltb limit (nesting e) ≡ b → nesting e ≤ limit
      go true t =
          let (o, u) = nesting-opens e limit (ltb-true limit (nesting e) t) in
          absurd (n limit o (omega arith) u)
      go false t = ltb-false limit (nesting e) t

  deep-first : (e : Sexp) (p l o : ℕ) → 0 + l ≡ limit → p ≡ 0 + o → Opens e l o → ((k q : ℕ) → 0 + k ≡ limit → Opens e k q → o ≤ q) → First e limit p
  deep-first e p l o h f u t =
      let z : l ≡ limit = omega arith in
      let y : o ≡ p = omega arith in
      record {
        opens = subst (λ (o : ℕ). Opens e limit o) y (subst (λ (l : ℕ). Opens e l o) z u);
        before = λ q v. omega (arith, t limit q (omega arith) v, y);
      }

module _ (hints : Bool) (limit : ℕ) (s : List ℕ) where
  -- what the verdict on an expression says of it
  agrees : (e : Sexp) (w : List ℕ) → Known hints e → spell e ≡ w → Says limit 0 0 (Opens e) (judgement hints limit w)
  agrees e w y h =
      subst (Says limit 0 0 (Opens e)) (sym (spelt-whole hints limit e y) ∙ ap (judgement hints limit) h) (says limit e 0 0)

  -- no expression begins with more than a fault lets through
  refuted : (o : ℕ) → judgement hints limit s ≡ Fault o → (p : ℕ) → o < p → p ≤ length s → Viable hints (take p s) → ⊥
  unfolding judgement
  refuted o h p l l' (e, rest, y, z, t) =
      subst (Says limit 0 0 (Opens e)) (steady hints limit s (due 0) 0 Sound o tt h p (omega arith) l' rest) (agrees e (take p s ++ rest) y t)

  told-whole : Told hints (due 0) 0 s (judgement hints limit s)
  unfolding judgement
  told-whole = told hints limit s (due 0) 0 Sound tt

  -- the answer is meant
  pub meant : MeansWith hints s limit (judgement hints limit s)
  meant = go (judgement hints limit s) refl told-whole
    where
      go : (r : Carrier) → judgement hints limit s ≡ r → Told hints (due 0) 0 s r → MeansWith hints s limit r
      go Sound h t =
          let (e, y, w) = whole hints s t in
          (e, y, w, shallow limit e (subst (Says limit 0 0 (Opens e)) h (agrees e s y w)))
      go (Deep p) h t =
          let (e, y, w) = whole hints s t in
          let (l, o, i, f, u, b) = subst (Says limit 0 0 (Opens e)) h (agrees e s y w) in
          (e, y, w, deep-first limit e p l o i f u b)
      go (Fault o) h (n, f, l, x, z, t) =
          let (e, y, w) = whole hints (take n s ++ x) t in
          let m : n ≡ o = omega arith in (
            record {
              inside = omega arith;
              viable = (e, x, y, z, w ∙ ap (λ (i : ℕ). take i s ++ x) m);
              longest = refuted o h;
            },
            λ e y w. subst (Says limit 0 0 (Opens e)) h (agrees e s y w),
          )

  -- and nothing else is meant
  pub only : (r : Carrier) → MeansWith hints s limit r → r ≡ judgement hints limit s
  only r m = go r (judgement hints limit s) m meant (λ e y h. agrees e s y h)
    where
      go : (a b : Carrier) → MeansWith hints s limit a → MeansWith hints s limit b → ((e : Sexp) → Known hints e → spell e ≡ s → Says limit 0 0 (Opens e) b) → a ≡ b
      go Sound Sound m n t = refl
      go Sound (Fault p) (e, y, h, d) n t = absurd (t e y h)
      go Sound (Deep p) (e, y, h, d) n t =
          let (l, o, i, f, u, b) = t e y h in
          absurd (omega (arith, opens-nesting e l o u, i, d))
      go (Fault o) Sound (g, x) (e, y, h, d) t = absurd (x e y h)
      go (Fault o) (Deep p) (g, x) (e, y, h, d) t = absurd (x e y h)
      go (Fault o) (Fault p) (g, x) (g', x') t = ap Fault (longest-once hints s o p g g')
      go (Deep o) Sound (e, y, h, d) n t = absurd (t e y h limit o (omega arith) d.opens)
      go (Deep o) (Fault p) (e, y, h, d) n t = absurd (t e y h)
      go (Deep o) (Deep p) (e, y, h, d) n t =
          let (l, q, i, f, u, b) = t e y h in
          let z : l ≡ limit = omega arith in
          ap Deep (omega (arith, f, b limit o (omega arith) d.opens, d.before q (subst (λ (k : ℕ). Opens e k q) z u)))

module _ (s : List ℕ) (limit : ℕ) where
  pub the-answer-means-what-it-says : Means s limit (carrier_of limit s)
  unfolding carrier_of
  the-answer-means-what-it-says = meant hints_read limit s

  pub only-the-answer-is-meant : (r : Carrier) → Means s limit r → r ≡ carrier_of limit s
  unfolding carrier_of
  only-the-answer-is-meant r m = only hints_read limit s r m

  pub any-two-answers-are-equal : (a b : Carrier) → Means s limit a → Means s limit b → a ≡ b
  any-two-answers-are-equal a b m n = only-the-answer-is-meant a m ∙ sym (only-the-answer-is-meant b n)

  -- one answer for every input: what `canonical` promises of two results makes them equal
  pub canonical-answer : (r r' : Carrier) → r ≡ carrier_of limit s → r' ≡ carrier_of limit s → r ≡ r'
  canonical-answer r r' h g = h ∙ sym g
