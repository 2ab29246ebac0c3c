-- What is spelt is read, and what is read is spelt so: reading gives e exactly from `spell e`, for every expression, hinted strings included.
-- From document 01, "The carrier and the words".
use Prim.Native.Nat.{ℕ, ◌+◌, ◌*◌, ◌-◌, ◌≤◌, ◌<◌}
use mathlib.Core.Path.{◌≡◌, refl, sym, ◌∙◌, ap, subst}
use mathlib.Core.Bool.{true}
use mathlib.Core.List.{List, [], ◌∷◌, ◌++◌}
use mathlib.Core.Option.{Option, none, some, none-ne-some, some-injective}
use native.Mathlib.Omega.{arith}
use lib.ListN.{length}
use lib.Seq.{take-append_seam}
use borrow.Author.Tests.{ne_eqb}
use Rattle.sexp.specs.declared.carrier.Carrier.{Carrier}
use Rattle.sexp.specs.declared.carrier.Carrier.TheVariants.{Sound, Fault, Deep}
use Rattle.sexp.specs.Decimal.{decimal_onto}
use Rattle.sexp.specs.Sexp.{Sexp, Sexps, str, hinted, list, nil, cons, spell_onto, spells_onto, spell, verbatim_onto, nesting}
use Rattle.sexp.specs.Known.{Known, Knowns}
use Rattle.sexp.specs.Scan.{hints_read, judgement, carrier_of}
use Rattle.sexp.specs.Meaning.{MeansWith, Means}
use Rattle.sexp.specs.Read.{snoc, add, Hint, bare, begun, given, put, next, build, only, built, read}
use Rattle.sexp.proofs.DecimalLaws.{onto-small, onto-step, by_digits}
use Rattle.sexp.proofs.Meant.{meant, the-answer-means-what-it-says}

-- where hints are read, every expression is known
mutual
  pub all_known : (e : Sexp) → Known true e
  all_known (str bs) = tt
  all_known (hinted h bs) = refl
  all_known (list xs) = alls-known xs

  alls-known : (xs : Sexps) → Knowns true xs
  alls-known nil = tt
  alls-known (cons x xs) = (all_known x, alls-known xs)

module _ (s : List Sexps) where
  digit-read : (p : Hint) (v d : ℕ) (k : List ℕ) → d < 10 → build s p 0 v ((48 + d) ∷ k) ≡ build s p 0 (v * 10 + d) k
  digit-read p v d k h =
      rw (ne_eqb (48 + d) 40 (λ x. omega arith), build)
      (rw (ne_eqb (48 + d) 41 (λ x. omega arith))
      (rw (ne_eqb (48 + d) 58 (λ x. omega arith))
      (rw (ne_eqb (48 + d) 91 (λ x. omega arith))
      (rw (ne_eqb (48 + d) 93 (λ x. omega arith))
      (ap (λ (x : ℕ). build s p 0 (v * 10 + x) k) {x = (48 + d) - 48} {y = d} (omega arith))))))

  abbrev Reads : ℕ → Type 0
  Reads n = (p : Hint) (k : List ℕ) → build s p 0 0 (decimal_onto n k) ≡ build s p 0 n k

  number_read : (n : ℕ) → Reads n
  number_read = by_digits Reads one more
    where
      one : (n : ℕ) → n < 10 → Reads n
      one n h p k =
          ap (build s p 0 0) (onto-small n k h) ∙ digit-read p 0 n k h ∙ ap (λ (x : ℕ). build s p 0 x k) {x = 0 * 10 + n} {y = n} (omega arith)

      more : (v d : ℕ) → 0 < v → d < 10 → Reads v → Reads (v * 10 + d)
      more v d h h' ih p k = ap (build s p 0 0) (onto-step v d k h h') ∙ ih p ((48 + d) ∷ k) ∙ digit-read p v d k h'

skipped : (bs k : List ℕ) (s : List Sexps) (p : Hint) → build s p (length bs) 0 (bs ++ k) ≡ build s p 0 0 k
skipped [] k s p = refl
skipped (b ∷ bs) k s p = skipped bs k s p

string-read : (bs k : List ℕ) (s : List Sexps) (p : Hint) → build s p 0 0 (verbatim_onto bs k) ≡ build (put p bs s) (next p bs) 0 0 k
string-read bs k s p =
    number_read s (length bs) p (58 ∷ (bs ++ k))
    ∙ ap (λ (x : List ℕ). build (put p x s) (next p x) (length bs) 0 (bs ++ k)) (take-append_seam bs k)
    ∙ skipped bs k (put p bs s) (next p bs)

-- members one after another
join : Sexps → Sexps → Sexps
join xs nil = xs
join xs (cons y ys) = join (snoc xs y) ys

join-cons : (x : Sexp) (xs ys : Sexps) → join (cons x xs) ys ≡ cons x (join xs ys)
unfolding join
join-cons x xs nil = refl
join-cons x xs (cons y ys) = join-cons x (snoc xs y) ys

join-nil : (ys : Sexps) → join nil ys ≡ ys
unfolding join
join-nil nil = refl
join-nil (cons y ys) = join-cons y nil ys ∙ ap (cons y) (join-nil ys)

mutual
  unfolding join

  one-read : (e : Sexp) (s : List Sexps) (k : List ℕ) → build s bare 0 0 (spell_onto e k) ≡ build (add e s) bare 0 0 k
  one-read (str bs) s k = string-read bs k s bare
  one-read (hinted h bs) s k = string-read h (93 ∷ verbatim_onto bs k) s begun ∙ string-read bs k s (given h)
  one-read (list xs) s k =
      many_read xs nil s (41 ∷ k) ∙ ap (λ (ys : Sexps). build (add (list ys) s) bare 0 0 k) (join-nil xs)

  many_read : (ys xs : Sexps) (s : List Sexps) (k : List ℕ) → build (xs ∷ s) bare 0 0 (spells_onto ys k) ≡ build (join xs ys ∷ s) bare 0 0 k
  many_read nil xs s k = refl
  many_read (cons y ys) xs s k = one-read y (xs ∷ s) (spells_onto ys k) ∙ many_read ys (snoc xs y) s k

built-once : (e : Sexp) → built (spell e) ≡ some e
built-once e = ap only (one-read e (nil ∷ []) [])

pub what-is-spelt-is-read : (e : Sexp) → read (spell e) ≡ some e
unfolding read
what-is-spelt-is-read e = go (judgement true 0 (spell e)) (meant true 0 (spell e))
  where
    go : (r : Carrier) → MeansWith true (spell e) 0 r → elim r as (λ x. Option Sexp) [ Sound ↦ built (spell e) | Fault o ↦ none | Deep o ↦ built (spell e) ] ≡ some e
    go Sound m = built-once e
    go (Deep o) m = built-once e
    go (Fault o) m = absurd (m.1 e (all_known e) refl)

pub what-is-read-is-spelt : (bs : List ℕ) (e : Sexp) → read bs ≡ some e → spell e ≡ bs
unfolding read
what-is-read-is-spelt bs e h = go (judgement true 0 bs) (meant true 0 bs) h
  where
    found : (a : Sexp) → spell a ≡ bs → built bs ≡ some e → spell e ≡ bs
    found a w t = ap spell (sym (some-injective a e (sym (built-once a) ∙ ap built w ∙ t))) ∙ w

    go : (r : Carrier) → MeansWith true bs 0 r → elim r as (λ x. Option Sexp) [ Sound ↦ built bs | Fault o ↦ none | Deep o ↦ built bs ] ≡ some e → spell e ≡ bs
    go Sound (a, y, w, d) t = found a w t
    go (Deep o) (a, y, w, d) t = found a w t
    go (Fault o) m t = absurd (none-ne-some e t)

-- no bytes are read that spell nothing
pub what-is-not-read-is-not-spelt : (bs : List ℕ) → read bs ≡ none → (e : Sexp) → spell e ≡ bs → ⊥
what-is-not-read-is-not-spelt bs h e w =
    none-ne-some e (sym h ∙ sym (ap read w) ∙ what-is-spelt-is-read e)

-- a file that the carrier finds sound is read, as an expression without a hint that nests at most as deep as the limit
pub what-is-sound-is-read : (s : List ℕ) (limit : ℕ) → carrier_of limit s ≡ Sound → (e : Sexp) × (read s ≡ some e) × (spell e ≡ s) × Known hints_read e × (nesting e ≤ limit)
what-is-sound-is-read s limit h =
    let (e, y, w, d) = subst (Means s limit) h (the-answer-means-what-it-says s limit) in
    (e, ap read (sym w) ∙ what-is-spelt-is-read e, w, y, d)
