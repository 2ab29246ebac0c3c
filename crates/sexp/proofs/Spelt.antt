-- What is spelt is passed: the scan over an expression that it knows. From document 01, "The carrier and the words".
use Prim.Native.Nat.{ℕ, suc, ◌+◌, ◌*◌, ◌-◌, ◌<◌}
use mathlib.Core.Path.{◌≡◌, refl, sym, ◌∙◌, ap, subst}
use mathlib.Core.Bool.{Bool}
use mathlib.Core.List.{List, [], ◌∷◌, ◌++◌}
use native.Mathlib.Omega.{arith}
use lib.ListN.{length, length-append}
use Rattle.sexp.specs.declared.carrier.Carrier.{Carrier}
use Rattle.sexp.specs.declared.carrier.Carrier.TheVariants.{Sound}
use Rattle.sexp.specs.Decimal.{decimal_onto}
use Rattle.sexp.specs.Sexp.{Sexp, Sexps, str, hinted, list, nil, cons, spell_onto, spells_onto, spell, spells, verbatim_onto}
use Rattle.sexp.specs.Known.{Known, Knowns}
use Rattle.sexp.specs.Scan.{Then, after, shut, due, string, number, owed, step, deeper, note, ended, scan, judgement}
use Rattle.sexp.proofs.DecimalLaws.{onto-small, onto-step, by_digits, onto-length, onto-first, digit-is, DigitFirst}
use Rattle.sexp.proofs.SpellLaws.{verbatim-length, spell-length, spells-length}
use Rattle.sexp.proofs.ScanLaws.{scan-some, due-open, string-digit, number-digit, number-colon, owed-close, no-bracket, owed-due, due-string, due-hint, hint-shut}

-- the verdict so far, after an expression at an offset, in d lists
module _ (limit : ℕ) where
  unfoldable mutual
    pub mark : ℕ → ℕ → Carrier → Sexp → Carrier
    mark d at v (str bs) = v
    mark d at v (hinted h bs) = v
    mark d at v (list xs) = marks (suc d) (at + 1) (deeper limit d at v) xs

    pub marks : ℕ → ℕ → Carrier → Sexps → Carrier
    marks d at v nil = v
    marks d at v (cons x xs) = marks d (at + length (spell x)) (mark d at v x) xs

-- what an expression begins with
abbrev Member : List ℕ → Type 0
Member w = (c : ℕ) × (r : List ℕ) × (w ≡ c ∷ r) × (c ≡ 41 → ⊥)

begins : (e : Sexp) (k : List ℕ) → Member (spell_onto e k)
begins (str bs) k = let (c, r, e, l) = onto-first (length bs) (58 ∷ (bs ++ k)) in (c, r, e, λ x. omega (arith, x, l))
begins (hinted h bs) k = (91, verbatim_onto h (93 ∷ verbatim_onto bs k), refl, λ x. omega (arith, x))
begins (list xs) k = (40, spells_onto xs (41 ∷ k), refl, λ x. omega (arith, x))

module _ (hints : Bool) (limit : ℕ) where
  -- a number is read
  abbrev Reads : ℕ → Type 0
  Reads n = (t : Then) (at : ℕ) (v : Carrier) (k : List ℕ) → scan hints limit (string t) at v (decimal_onto n k) ≡ scan hints limit (number t n) (at + length (decimal_onto n [])) v k

  pub spelt-number : (n : ℕ) → Reads n
  unfolding note
  spelt-number = by_digits Reads one more
    where
      one : (n : ℕ) → n < 10 → Reads n
      one n h t at v k =
          rw (onto-small n k h)
          (rw (onto-small n [] h)
          (scan-some hints limit (string t) (number t ((48 + n) - 48)) at (48 + n) v k (string-digit hints t (48 + n) (digit-is (48 + n) (omega arith) (omega arith)))
          ∙ ap (λ (x : ℕ). scan hints limit (number t x) (at + 1) v k) {x = (48 + n) - 48} {y = n} (omega arith)))

      more : (v d : ℕ) → 0 < v → d < 10 → Reads v → Reads (v * 10 + d)
      more v c h h' ih t at m k =
          ap (λ (w : List ℕ). scan hints limit (string t) at m w) (onto-step v c k h h')
          ∙ ih t at m ((48 + c) ∷ k)
          ∙ scan-some hints limit (number t v) (number t (v * 10 + ((48 + c) - 48))) (at + length (decimal_onto v [])) (48 + c) m k (number-digit hints t v (48 + c) h (digit-is (48 + c) (omega arith) (omega arith)))
          ∙ ap (λ (x : ℕ). scan hints limit (number t (v * 10 + x)) (at + length (decimal_onto v []) + 1) m k) {x = (48 + c) - 48} {y = c} (omega arith)
          ∙ ap (λ (x : ℕ). scan hints limit (number t (v * 10 + c)) x m k) (let a = ap length (onto-step v c [] h h') in let b = onto-length v ((48 + c) ∷ []) in omega (arith, a, b))

  spelt-octets : (bs : List ℕ) (t : Then) (at : ℕ) (v : Carrier) (k : List ℕ) → scan hints limit (owed t (length bs)) at v (bs ++ k) ≡ scan hints limit (owed t 0) (at + length bs) v k
  unfolding scan step note
  spelt-octets [] t at v k = ap (λ (x : ℕ). scan hints limit (owed t 0) x v k) {x = at} {y = at + 0} (omega arith)
  spelt-octets (b ∷ bs) t at v k =
      spelt-octets bs t (at + 1) v k
      ∙ ap (λ (x : ℕ). scan hints limit (owed t 0) x v k) {x = at + 1 + length bs} {y = at + length (b ∷ bs)} (omega arith)

  -- a string is passed
  pub spelt-string : (bs : List ℕ) (t : Then) (at : ℕ) (v : Carrier) (k : List ℕ) → scan hints limit (string t) at v (verbatim_onto bs k) ≡ scan hints limit (owed t 0) (at + length (verbatim_onto bs [])) v k
  unfolding note
  spelt-string bs t at v k =
      let i = at + length (decimal_onto (length bs) []) in
      spelt-number (length bs) t at v (58 ∷ (bs ++ k))
      ∙ scan-some hints limit (number t (length bs)) (owed t (length bs)) i 58 v (bs ++ k) (number-colon hints t (length bs) 58 refl)
      ∙ spelt-octets bs t (i + 1) v k
      ∙ ap (λ (x : ℕ). scan hints limit (owed t 0) x v k) {x = i + 1 + length bs} {y = at + length (verbatim_onto bs [])} (omega (arith, onto-length (length bs) (58 ∷ (bs ++ [])), length-append bs []))

  member : (w : List ℕ) (d at : ℕ) (v : Carrier) → Member w → scan hints limit (owed (after (suc d)) 0) at v w ≡ scan hints limit (due (suc d)) at v w
  member w d at v (c, r, e, n) =
      subst (λ (w : List ℕ). scan hints limit (owed (after (suc d)) 0) at v w ≡ scan hints limit (due (suc d)) at v w) (sym e) (owed-due hints limit d at c v r n)

  bare : (w : List ℕ) (d at : ℕ) (v : Carrier) → DigitFirst w → scan hints limit (due d) at v w ≡ scan hints limit (string (after d)) at v w
  bare w d at v (c, r, e, l) =
      subst (λ (w : List ℕ). scan hints limit (due d) at v w ≡ scan hints limit (string (after d)) at v w) (sym e)
      (due-string hints limit d at c v r (λ x. omega (arith, l, x)) (no-bracket hints c (λ x. omega (arith, l, x))))

  mutual
    unfolding mark note

    -- one expression is passed
    pub spelt : (e : Sexp) → Known hints e → (d at : ℕ) (v : Carrier) (k : List ℕ) → scan hints limit (due d) at v (spell_onto e k) ≡ scan hints limit (owed (after d) 0) (at + length (spell e)) (mark limit d at v e) k
    spelt (str bs) y d at v k =
        bare (verbatim_onto bs k) d at v (onto-first (length bs) (58 ∷ (bs ++ k))) ∙ spelt-string bs (after d) at v k
    spelt (hinted h bs) y d at v k =
        let i = at + 1 + length (verbatim_onto h []) in
        scan-some hints limit (due d) (string (shut d)) at 91 v (verbatim_onto h (93 ∷ verbatim_onto bs k)) (due-hint hints d 91 y refl)
        ∙ spelt-string h (shut d) (at + 1) v (93 ∷ verbatim_onto bs k)
        ∙ scan-some hints limit (owed (shut d) 0) (string (after d)) i 93 v (verbatim_onto bs k) (hint-shut hints d 93 refl)
        ∙ spelt-string bs (after d) (i + 1) v k
        ∙ ap (λ (x : ℕ). scan hints limit (owed (after d) 0) x v k) {x = i + 1 + length (verbatim_onto bs [])} {y = at + length (spell (hinted h bs))} (omega (arith, verbatim-length h (93 ∷ verbatim_onto bs [])))
    spelt (list xs) y d at v k =
        let u = deeper limit d at v in
        scan-some hints limit (due d) (owed (after (suc d)) 0) at 40 v (spells_onto xs (41 ∷ k)) (due-open hints d 40 refl)
        ∙ spelts xs y d (at + 1) u (41 ∷ k)
        ∙ scan-some hints limit (owed (after (suc d)) 0) (owed (after d) 0) (at + 1 + length (spells xs)) 41 (marks limit (suc d) (at + 1) u xs) k (owed-close hints d 41 refl)
        ∙ ap (λ (x : ℕ). scan hints limit (owed (after d) 0) x (marks limit (suc d) (at + 1) u xs) k) {x = at + 1 + length (spells xs) + 1} {y = at + length (spell (list xs))} (omega (arith, spells-length xs (41 ∷ [])))

    -- and so are the members of a list
    pub spelts : (xs : Sexps) → Knowns hints xs → (d at : ℕ) (v : Carrier) (k : List ℕ) → scan hints limit (owed (after (suc d)) 0) at v (spells_onto xs k) ≡ scan hints limit (owed (after (suc d)) 0) (at + length (spells xs)) (marks limit (suc d) at v xs) k
    spelts nil y d at v k = ap (λ (x : ℕ). scan hints limit (owed (after (suc d)) 0) x v k) {x = at} {y = at + 0} (omega arith)
    spelts (cons x xs) (y, z) d at v k =
        member (spell_onto x (spells_onto xs k)) d at v (begins x (spells_onto xs k))
        ∙ spelt x y (suc d) at v (spells_onto xs k)
        ∙ spelts xs z d (at + length (spell x)) (mark limit (suc d) at v x) k
        ∙ ap (λ (i : ℕ). scan hints limit (owed (after (suc d)) 0) i (marks limit (suc d) at v (cons x xs)) k) {x = at + length (spell x) + length (spells xs)} {y = at + length (spells (cons x xs))} (omega (arith, spell-length x (spells xs)))

  -- the verdict on an expression
  pub spelt-whole : (e : Sexp) → Known hints e → judgement hints limit (spell e) ≡ mark limit 0 0 Sound e
  unfolding judgement scan ended
  spelt-whole e y = spelt e y 0 0 Sound []
