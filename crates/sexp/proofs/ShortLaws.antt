-- Strings of fewer than ten octets: their length is one digit, so that each of their bytes is known by its offset alone.
-- From document 01, "a string is its length in decimal, a colon and that many octets".
use Prim.Native.Nat.{ℕ, ◌+◌, ◌-◌, ◌<◌, ◌≤◌}
use mathlib.Core.Path.{◌≡◌, refl, sym, ◌∙◌, ap, ap₂, subst}
use mathlib.Core.Bool.{Bool, true}
use mathlib.Core.List.{List, [], ◌∷◌, ◌++◌}
use native.Mathlib.Omega.{arith}
use lib.ListN.{length, get_or, take, drop, length-drop, length-append, take-append-drop}
use lib.Seq.{take-append_seam}
use Rattle.basics.specs.Tells.{Tells, tells_as}
use Rattle.std.specs.Prelude.{Ok, Err}
use Rattle.sexp.specs.Decimal.{is_digit}
use Rattle.sexp.specs.Sexp.{str, Stands}
use Rattle.sexp.specs.Text.{VerbatimAt}
use Rattle.sexp.specs.Words.{is_number, every, no_leading_zero, worth, worth_after}
use Rattle.sexp.specs.WordsAt.{Numeral}
use Rattle.sexp.proofs.DecimalLaws.{onto-small}
use Rattle.sexp.proofs.NumberLaws.{drop_here, digits-start, over-digit}
use Rattle.sexp.proofs.StandLaws.{byte_at, after-byte}
use Rattle.sexp.proofs.TextLaws.{spans, stuck-octets}

-- the bytes of the string w, where its length is one digit
pub record Short (s : List ℕ) (at : ℕ) (w : List ℕ) : Type 0 where
  pub inside : at + 2 + length w ≤ length s
  pub count : get_or s at 0 ≡ 48 + length w
  pub colon : get_or s (at + 1) 0 ≡ 58
  pub octets : take (length w) (drop (at + 2) s) ≡ w

module _ (s : List ℕ) (at : ℕ) where
  -- the bytes after the colon, which is the byte after the first
  after-colon : drop (at + 2) s ≡ drop (at + 1 + 1) s
  after-colon = ap (λ (i : ℕ). drop i s) {x = at + 2} {y = at + 1 + 1} (omega arith)

  -- such a string has these bytes
  pub short-bytes : {w : List ℕ} → length w < 10 → Stands s at (str w) → Short s at w
  short-bytes {w} l h =
      let k = w ++ h.rest in
      let e = h.spelt ∙ onto-small (length w) (58 ∷ k) l in
      let f = after-byte s at ((48 + length w) ∷ 58 ∷ k) e in
      record {
        inside = omega (arith, length-drop at s, ap length e, length-append w h.rest);
        count = byte_at s at ((48 + length w) ∷ 58 ∷ k) e;
        colon = byte_at s (at + 1) (58 ∷ k) f;
        octets = ap (take (length w)) (after-colon ∙ after-byte s (at + 1) (58 ∷ k) f) ∙ take-append_seam w h.rest;
      }

  -- and these bytes are such a string
  pub short-stands : {w : List ℕ} → length w < 10 → Short s at w → Stands s at (str w)
  short-stands {w} l h =
      let n = length w in
      let i = h.inside in
      let k = drop n (drop (at + 2) s) in
      let e : drop (at + 2) s ≡ w ++ k = sym (take-append-drop n (drop (at + 2) s)) ∙ ap (λ (x : List ℕ). x ++ k) h.octets in
      let f : drop (at + 1) s ≡ 58 ∷ (w ++ k) = drop_here s (at + 1) (omega arith) ∙ ap₂ ◌∷◌ h.colon (sym after-colon ∙ e) in
      record { rest = k; spelt = drop_here s at (omega arith) ∙ ap₂ ◌∷◌ h.count f ∙ sym (onto-small n (58 ∷ (w ++ k)) l) }

  -- so where the digit and the colon are known, the octets tell
  pub short-told : (w : List ℕ) (r : Bool) → length w < 10 → at + 2 + length w ≤ length s → get_or s at 0 ≡ 48 + length w → get_or s (at + 1) 0 ≡ 58 → Tells r (take (at + 2 + length w - (at + 2)) (drop (at + 2) s) ≡ w) → Tells r (Stands s at (str w))
  short-told w r l i n c =
      let q = ap (λ (k : ℕ). take k (drop (at + 2) s)) {x = length w} {y = at + 2 + length w - (at + 2)} (omega arith) in
      tells_as r
      (λ e. short-stands l (record { inside = i; count = n; colon = c; octets = q ∙ e }))
      (λ h. sym q ∙ (short-bytes l h).octets)

  -- a string whose length is one digit, read at once
  pub short-spans : at + 1 < length s → is_digit (get_or s at 0) ≡ true → get_or s (at + 1) 0 ≡ 58 → get_or s at 0 - 48 < length s - at - 1 → length s < 9223372036854775808 → VerbatimAt s at (Ok (at + 2, at + 2 + (get_or s at 0 - 48)))
  unfolding is_digit
  short-spans h d c l b =
      let v = get_or s at 0 - 48 in
      let r = over-digit s at v (at + 1) (digits-start s at (omega arith) d) (ap is_digit c) in
      subst (λ (x : ℕ). VerbatimAt s at (Ok (x, x + v))) {x = at + 1 + 1} {y = at + 2} (omega arith)
      (spans s at v (at + 1) r h c (omega arith) b)

  -- and one that is too long for the bytes
  pub short_stuck : at + 1 < length s → is_digit (get_or s at 0) ≡ true → get_or s (at + 1) 0 ≡ 58 → (get_or s at 0 - 48 < length s - at - 1 → ⊥) → length s < 9223372036854775808 → VerbatimAt s at (Err (length s))
  unfolding is_digit
  short_stuck h d c l b =
      let v = get_or s at 0 - 48 in
      let r = over-digit s at v (at + 1) (digits-start s at (omega arith) d) (ap is_digit c) in
      stuck-octets s at v (at + 1) r h c (λ k. l (omega arith)) b

  -- a number of one digit, read at once
  pub short-number : at + 2 < length s → get_or s at 0 ≡ 49 → get_or s (at + 1) 0 ≡ 58 → is_digit (get_or s (at + 2) 0) ≡ true → Numeral s at (get_or s (at + 2) 0 - 48)
  unfolding is_number every no_leading_zero worth worth_after
  short-number h n c d = record {
    octets = get_or s (at + 2) 0 ∷ [];
    stands = short-stands (omega arith) (record { inside = omega arith; count = n; colon = c; octets = ap (take 1) (drop_here s (at + 2) h) });
    number = rw d refl;
    says = omega arith;
  }
