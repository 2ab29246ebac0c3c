-- What the scan does at one byte, and how it goes on from an offset of a file. From document 01, "The carrier and the words"; whether hints are read, and the
-- limit of nesting, are any.
use mathlib.Core.Path.{◌≡◌, refl, sym, ap, ap₂, subst, ◌∙◌}
use mathlib.Core.Bool.{Bool, true, false, ◌&&◌}
use mathlib.Core.List.{List, [], ◌∷◌}
use mathlib.Core.Option.{Option, none, some}
use Prim.Native.Nat.{ℕ, zero, suc, ◌+◌, ◌-◌, ◌*◌, ◌<◌, ◌≤◌}
use native.Mathlib.Omega.{arith}
use lib.Dec.{eqb}
use lib.ListN.{length, get_or, drop, drop_of_length-le}
use borrow.Author.Tests.{lt-ltb, eq-eqb, ne_eqb}
use Rattle.sexp.specs.declared.carrier.Carrier.{Carrier}
use Rattle.sexp.specs.declared.carrier.Carrier.TheVariants.{Fault}
use Rattle.sexp.specs.Decimal.{is_digit}
use Rattle.sexp.specs.Scan.{Then, after, shut, State, due, string, number, owed, digit, begin, step, deeper, note, ended, scan}
use Rattle.sexp.proofs.DecimalLaws.{digit-high}
use Rattle.sexp.proofs.NumberLaws.{drop_here}

and-false : (a : Bool) → a && false ≡ false
and-false true = refl
and-false false = refl

-- what one byte makes of what is due
module _ (hints : Bool) where
  pub due-open : (d c : ℕ) → c ≡ 40 → step hints (due d) c ≡ some (owed (after (suc d)) 0)
  unfolding step begin
  due-open d c e = simp (eq-eqb c 40 e) refl

  pub due-hint : (d c : ℕ) → hints ≡ true → c ≡ 91 → step hints (due d) c ≡ some (string (shut d))
  unfolding step begin
  due-hint d c h e = simp (ne_eqb c 40 (λ x. omega arith), h, eq-eqb c 91 e) refl

  pub no-bracket : (c : ℕ) → (c ≡ 91 → ⊥) → hints && eqb c 91 ≡ false
  no-bracket c n = ap (λ (b : Bool). hints && b) (ne_eqb c 91 n) ∙ and-false hints

  begin-string : (d c : ℕ) → (c ≡ 40 → ⊥) → hints && eqb c 91 ≡ false → step hints (due d) c ≡ step hints (string (after d)) c
  unfolding step begin
  begin-string d c n m = simp (ne_eqb c 40 n, m) refl

  pub string-digit : (t : Then) (c : ℕ) → is_digit c ≡ true → step hints (string t) c ≡ some (number t (c - 48))
  unfolding step digit
  string-digit t c e = simp e refl

  pub string-none : (t : Then) (c : ℕ) → is_digit c ≡ false → step hints (string t) c ≡ none
  unfolding step digit
  string-none t c e = simp e refl

  pub number-digit : (t : Then) (n c : ℕ) → 0 < n → is_digit c ≡ true → step hints (number t n) c ≡ some (number t (n * 10 + (c - 48)))
  unfolding step
  number-digit t n c h e = let l = digit-high c e in simp (ne_eqb c 58 (λ x. omega arith), e, lt-ltb 0 n h) refl

  pub number-colon : (t : Then) (n c : ℕ) → c ≡ 58 → step hints (number t n) c ≡ some (owed t n)
  unfolding step
  number-colon t n c e = simp (eq-eqb c 58 e) refl

  pub number-over : (t : Then) (n c : ℕ) → (c ≡ 58 → ⊥) → (0 < n → is_digit c ≡ false) → step hints (number t n) c ≡ none
  unfolding step
  number-over t zero c h e = simp (ne_eqb c 58 h, and-false (is_digit c)) refl
  number-over t (suc n) c h e = simp (ne_eqb c 58 h, e (omega arith)) refl

  pub owed-close : (d c : ℕ) → c ≡ 41 → step hints (owed (after (suc d)) 0) c ≡ some (owed (after d) 0)
  unfolding step
  owed-close d c e = simp (eq-eqb c 41 e) refl

  owed-begin : (d c : ℕ) → (c ≡ 41 → ⊥) → step hints (owed (after (suc d)) 0) c ≡ step hints (due (suc d)) c
  unfolding step
  owed-begin d c h = simp (ne_eqb c 41 h) refl

  pub hint-shut : (d c : ℕ) → c ≡ 93 → step hints (owed (shut d) 0) c ≡ some (string (after d))
  unfolding step
  hint-shut d c e = simp (eq-eqb c 93 e) refl

  pub hint-none : (d c : ℕ) → (c ≡ 93 → ⊥) → step hints (owed (shut d) 0) c ≡ none
  unfolding step
  hint-none d c e = simp (ne_eqb c 93 e) refl

-- and of the verdict so far
module _ (limit : ℕ) where
  pub note-open : (d at c : ℕ) (v : Carrier) → c ≡ 40 → note limit (due d) c at v ≡ deeper limit d at v
  unfolding note
  note-open d at c v e = simp (eq-eqb c 40 e) refl

  pub note-other : (d at c : ℕ) (v : Carrier) → (c ≡ 40 → ⊥) → note limit (due d) c at v ≡ v
  unfolding note
  note-other d at c v e = simp (ne_eqb c 40 e) refl

  pub note-owed : (d at c : ℕ) (v : Carrier) → note limit (owed (after (suc d)) 0) c at v ≡ note limit (due (suc d)) c at v
  unfolding note
  note-owed d at c v = refl

module _ (hints : Bool) (limit : ℕ) where
  -- one byte of a known rest
  pub scan-some : (q p : State) (at c : ℕ) (v : Carrier) (w : List ℕ) → step hints q c ≡ some p → scan hints limit q at v (c ∷ w) ≡ scan hints limit p (at + 1) (note limit q c at v) w
  unfolding scan
  scan-some q p at c v w e = rw (e, scan) refl

  pub scan-none : (q : State) (at c : ℕ) (v : Carrier) (w : List ℕ) → step hints q c ≡ none → scan hints limit q at v (c ∷ w) ≡ Fault at
  unfolding scan
  scan-none q at c v w e = rw (e, scan) refl

  -- two states that do alike at the next byte
  alike : (p q : State) (at c : ℕ) (v : Carrier) (w : List ℕ) → step hints p c ≡ step hints q c → note limit p c at v ≡ note limit q c at v → scan hints limit p at v (c ∷ w) ≡ scan hints limit q at v (c ∷ w)
  unfolding scan
  alike p q at c v w e n =
      ap₂ (λ (o : Option State) (u : Carrier). elim o as (λ x. Carrier) [ none ↦ Fault at | some r ↦ scan hints limit r (at + 1) u w ]) e n

  -- an expression in a list begins like any other
  pub owed-due : (d at c : ℕ) (v : Carrier) (w : List ℕ) → (c ≡ 41 → ⊥) → scan hints limit (owed (after (suc d)) 0) at v (c ∷ w) ≡ scan hints limit (due (suc d)) at v (c ∷ w)
  unfolding note
  owed-due d at c v w n = alike (owed (after (suc d)) 0) (due (suc d)) at c v w (owed-begin hints d c n) refl

  -- and if it is no list and has no hint, like a string
  pub due-string : (d at c : ℕ) (v : Carrier) (w : List ℕ) → (c ≡ 40 → ⊥) → hints && eqb c 91 ≡ false → scan hints limit (due d) at v (c ∷ w) ≡ scan hints limit (string (after d)) at v (c ∷ w)
  unfolding note
  due-string d at c v w n m =
      alike (due d) (string (after d)) at c v w (begin-string hints d c n m) (note-other limit d at c v n)

  -- the same where the bytes are those of s from `at` on
  module _ (s : List ℕ) where
    pub at_some : (q p : State) (at : ℕ) (v : Carrier) → at < length s → step hints q (get_or s at 0) ≡ some p → scan hints limit q at v (drop at s) ≡ scan hints limit p (at + 1) (note limit q (get_or s at 0) at v) (drop (at + 1) s)
    at_some q p at v h e =
        ap (λ (w : List ℕ). scan hints limit q at v w) (drop_here s at h) ∙ scan-some q p at (get_or s at 0) v (drop (at + 1) s) e

    pub at_none : (q : State) (at : ℕ) (v : Carrier) → at < length s → step hints q (get_or s at 0) ≡ none → scan hints limit q at v (drop at s) ≡ Fault at
    at_none q at v h e =
        ap (λ (w : List ℕ). scan hints limit q at v w) (drop_here s at h) ∙ scan-none q at (get_or s at 0) v (drop (at + 1) s) e

    pub at-end : (q : State) (at : ℕ) (v : Carrier) → length s ≤ at → scan hints limit q at v (drop at s) ≡ ended q at v
    unfolding scan
    at-end q at v h = ap (λ (w : List ℕ). scan hints limit q at v w) (drop_of_length-le s {i = at} h)

    pub at-due-string : (d at : ℕ) (v : Carrier) → at < length s → (get_or s at 0 ≡ 40 → ⊥) → hints && eqb (get_or s at 0) 91 ≡ false → scan hints limit (due d) at v (drop at s) ≡ scan hints limit (string (after d)) at v (drop at s)
    at-due-string d at v h n m =
        subst (λ (w : List ℕ). scan hints limit (due d) at v w ≡ scan hints limit (string (after d)) at v w) (sym (drop_here s at h))
        (due-string d at (get_or s at 0) v (drop (at + 1) s) n m)

  -- too few octets
  pub octets-short : (n : ℕ) (t : Then) (at : ℕ) (v : Carrier) (w : List ℕ) → length w < n → scan hints limit (owed t n) at v w ≡ Fault (at + length w)
  unfolding scan step note ended
  octets-short zero t at v w h = absurd (omega arith)
  octets-short (suc n) t at v [] h = ap Fault (omega arith)
  octets-short (suc n) t at v (c ∷ w) h = octets-short n t (at + 1) v w (omega arith) ∙ ap Fault (omega arith)
